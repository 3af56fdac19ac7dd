use Rattle.std.proofs.Common.{◌≡◌, ◌==◌, take, false}
use Rattle.std.specs.List.{list_any}
use Rattle.schedule_text.proofs.reading.Reading.is_given.Given as goal

abbrev pub invariant-loop-given : goal.invariant-loop-given
invariant-loop-given l = list_any (λ given. given.0.0 == l.client.0) (take l.given-index l.self.clients) ≡ false
