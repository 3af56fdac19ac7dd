-- What is from the place on begins with the number's bytes.
use Rattle.std.specs.Int.{to_be_bytes, w16}
use Rattle.frame_codec.proofs.PlaceLemmas.{put_mid-with_bytes}
use Rattle.frame_codec.proofs.places.put_u16.Goals as goal

pub returns : goal.returns
returns c = put_mid-with_bytes c.args.at (to_be_bytes w16 c.args.n) c.args.out.now _ c.requires c.write_u16.ensures
