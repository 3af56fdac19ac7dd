use Rattle.df_offload.proofs.LawLemmas.{select_goes}
use Rattle.df_offload.proofs.laws.selects_go_forward.Goals as goal

pub returns : goal.returns
returns c columns cursor next rows given test some few less is =
    let goes = select_goes test columns cursor next rows given some few is in
    (goes.forward less, goes.low)
