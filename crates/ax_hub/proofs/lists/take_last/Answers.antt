use Rattle.std.proofs.Common.{◌<◌, length, arith}
use Rattle.ax_hub.proofs.ListLemmas.{some_of}
use Rattle.ax_hub.proofs.lists.take_last.Goals as goal

pub unwrap-requires : goal.unwrap-requires
unwrap-requires g c =
    let some : 0 < length c.args.items.now.items = some_of c.args.items.now.items c.requires in
    let same = c.args.items.now.ok.0 in
    c.pop.ensures.variant.1 (omega (arith, some, same))
