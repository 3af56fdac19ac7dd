use Rattle.std.proofs.Common.{◌≡◌, ◌∙◌, subst, sym}
use Rattle.std.specs.Option.{option_map}
use Rattle.texts.specs.Commands.{command_in}
use Rattle.clio_cli.specs.Words.{command_of}
use Rattle.clio_cli.proofs.WordLemmas.{eight_words}
use Rattle.clio_cli.proofs.words.Words.meaning.Goals as goal

pub returns-in-len8-clause-asked : goal.returns-in-len8-clause-asked
returns-in-len8-clause-asked c =
    let words =
    eight_words c.as_slice.result.now c.word-item-then-this-lt9.result c.port-item-then-this-lt9.result c.pages-item.result c.buckets-item.result
    c.ring-item.result c.retry-item.result c.frames-item.result c.idles-item.result
    c.as_slice-in-len8.result.now c.as_slice-in-len8-2.result.now c.as_slice-in-len8-3.result.now c.as_slice-in-len8-4.result.now
    c.as_slice-in-len8-5.result.now c.as_slice-in-len8-6.result.now c.as_slice-in-len8-7.result.now c.as_slice-in-len8-8.result.now
    c.in-len8.len_at_least c.in-len8.len_below
    c.word-item-then-this-lt9.is c.port-item-then-this-lt9.is c.pages-item.is c.buckets-item.is c.ring-item.is c.retry-item.is c.frames-item.is c.idles-item.is
    c.as_slice-in-len8.ensures c.as_slice-in-len8-2.ensures c.as_slice-in-len8-3.ensures c.as_slice-in-len8-4.ensures c.as_slice-in-len8-5.ensures c.as_slice-in-len8-6.ensures c.as_slice-in-len8-7.ensures c.as_slice-in-len8-8.ensures in
    subst (λ words. command_in words ≡ option_map command_of c.serve.result) (sym words ∙ c.as_slice.ensures ∙ c.self.view_is) c.serve.ensures.asked
