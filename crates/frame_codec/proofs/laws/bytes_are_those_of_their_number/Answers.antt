-- The law is the lemma of its name.
use Rattle.frame_codec.proofs.NumberLemmas.{bytes_are_those_of_their_number}
use Rattle.frame_codec.proofs.laws.bytes_are_those_of_their_number.Goals as goal

pub returns : goal.returns
returns c = bytes_are_those_of_their_number
