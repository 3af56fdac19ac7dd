-- The law is the lemma of its name.
use Rattle.frame_codec.proofs.WriterLemmas.{written_requests_are_read_again}
use Rattle.frame_codec.proofs.laws.written_requests_are_read_again.Goals as goal

pub returns : goal.returns
returns c = written_requests_are_read_again
