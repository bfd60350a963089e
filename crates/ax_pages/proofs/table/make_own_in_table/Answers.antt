use Rattle.std.proofs.Common.{Option, refl, subst, sym}
use Rattle.std.specs.Prelude.{IsSome}
use Rattle.ax_pages.proofs.TableLemmas.{blocks_used}
use Rattle.ax_pages.proofs.table.make_own_in_table.Goals as goal

pub returns-in-Some-clause-used : goal.returns-in-Some-clause-used
returns-in-Some-clause-used g c =
    let there = subst (λ (o : Option _). IsSome o) c.in-Some.ensures.value refl in
    blocks_used c.args.blocks.now (c.get_mut.follows.lender c.make_own_block.new.block) c.block_of.result c.in-Some.block.now c.make_own_block.new.block (sym c.in-Some.ensures.value)
    ((c.get_mut.follows.holds c.make_own_block.new.block).3 there).0 c.requires c.make_own_block.ensures.used c.make_own_block.ensures.pages
