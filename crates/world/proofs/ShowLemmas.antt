-- A frame is shown by what stands under its number at moment 0.
use Rattle.std.proofs.Common.{◌≡◌, ℕ, List, true, Option, Some, None, refl, arith}
use Rattle.cl_types.specs.Times.{is_live}
use Rattle.cl_types.specs.declared.frame.End.{End}
use Rattle.cl_types.specs.declared.line.Did.TheVariants as did
use Rattle.std.proofs.lemmas.Bool.Decides.{nat_tests}
use Rattle.link_sim.specs.Got.{Live, Expired, Absent, found_at}
use Rattle.link_sim.specs.LinkFrames.{SentFrame}
use Rattle.world.specs.Worlds.{frame_shown}

young : (m : ℕ) → is_live 0 m ≡ true
young m = grind (arith, nat_tests)

-- no frame is old at moment 0
under : (o : Option SentFrame) (f : SentFrame) → o ≡ Some f → found_at 0 o ≡ Live f.bytes f.end f.line
under o f is = rw (is, young f.moment) refl

pub shown_live : (k : ℕ) (o : Option SentFrame) (bytes : List ℕ) (end : End) (line : ℕ) → Live bytes end line ≡ found_at 0 o → did.Shown k bytes ≡ frame_shown k o
shown_live k None bytes end line is = absurd cc
shown_live k (Some f) bytes end line is = let same : Live bytes end line ≡ Live f.bytes f.end f.line = rw (← (under (Some f) f refl)) is in cc

pub shown_absent : (k : ℕ) (o : Option SentFrame) → Absent ≡ found_at 0 o → did.ShownAbsent k ≡ frame_shown k o
shown_absent k None is = refl
shown_absent k (Some f) is = let same : Absent ≡ Live f.bytes f.end f.line = rw (← (under (Some f) f refl)) is in absurd cc

pub shown_expired : (k : ℕ) (o : Option SentFrame) (sent : ℕ) → Expired sent ≡ found_at 0 o → did.ShownAbsent k ≡ frame_shown k o
shown_expired k None sent is = absurd cc
shown_expired k (Some f) sent is = let same : Expired sent ≡ Live f.bytes f.end f.line = rw (← (under (Some f) f refl)) is in absurd cc
