use Rattle.std.proofs.Common.{sym}
use Rattle.transcript_text.proofs.EntryLemmas.{no_bytes}
use Rattle.transcript_text.proofs.reply_words.bytes_in.Goals as goal

pub returns-in-Err-Bad : goal.returns-in-Err-Bad
returns-in-Err-Bad c = sym (no_bytes c.args.text.now c.in-Err-Bad.field-0 c.in-Err-Bad.field-0-0 c.in-Err-Bad.field-0-is c.in-Err-Bad.ensures)
