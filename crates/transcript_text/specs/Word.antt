-- What a word of a line prints. No public clause cites this module.
use Rattle.std.specs.Prelude.{decimal}
use Rattle.hex.specs.Hex.{encode_lower}
use Rattle.transcript_text.specs.declared.word.Word.{Word}
use Rattle.transcript_text.specs.declared.word.Word.TheVariants as word
use Rattle.texts.specs.Text.{Text}
use Rattle.texts.specs.Texts.{address, call_name, hex_or_dash, part_name}

-- the text of a word
abbrev pub text_of : Word → Text
text_of (word.Plain text) = text.now
text_of (word.Number n) = decimal n
text_of (word.Address addr) = address addr
text_of (word.Call client call) = call_name client call.0
text_of (word.Part client part) = part_name client part
text_of (word.Hex bytes) = encode_lower bytes.now
text_of (word.HexOrDash bytes) = hex_or_dash bytes.now
