use Rattle.std.proofs.Common.{ap, ◌∙◌, sym}
use Rattle.df_offload.specs.Layout.{picked}
use Rattle.df_offload.proofs.pick.Pick.of.Goals as goal

pub returns-in-Least : goal.returns-in-Least
returns-in-Least c = c.min.ensures ∙ sym (ap (λ pick. picked pick c.args.number c.args.other) c.in-Least.is)

pub returns-in-Greatest : goal.returns-in-Greatest
returns-in-Greatest c = c.max.ensures ∙ sym (ap (λ pick. picked pick c.args.number c.args.other) c.in-Greatest.is)
