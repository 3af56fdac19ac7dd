use Rattle.std.proofs.Common.{◌∙◌, ap, sym}
use Rattle.std.specs.Option.{option_map}
use Rattle.std.specs.Prelude.{codes}
use Rattle.clio_cli.specs.Words.{command_of}
use Rattle.clio_cli.proofs.WordLemmas.{asks_serve_of, word_is}
use Rattle.clio_cli.proofs.words.serve.Goals as goal

pub returns-clause-asked : goal.returns-clause-asked
returns-clause-asked c =
    asks_serve_of c.args.word.now c.args.port.now c.args.pages.now c.args.buckets.now c.args.ring.now c.args.retry.now c.args.frames.now c.args.idles.now c.number.result c.number-2.result c.number-3.result c.number-4.result
    c.number-5.result c.number-6.result c.number-7.result (word_is c.args.word.now c.as_slice.result.now (codes "node") c.as_slice.ensures c.if-ne.ensures)
    c.number.ensures.value c.number-2.ensures.value c.number-3.ensures.value c.number-4.ensures.value c.number-5.ensures.value c.number-6.ensures.value c.number-7.ensures.value
    ∙ ap (option_map command_of) (sym c.serve_of.ensures.asked)
