use Rattle.std.proofs.Common.{◌≡◌, ◌∙◌, ap, sym, None, arith}
use Rattle.std.specs.Prelude.{IsSome}
use Rattle.std.specs.FinMap as map
use Rattle.ax_pages.proofs.MapLemmas.{remove_absent, one_le_len, len_out, absent, present}
use Rattle.ax_pages.proofs.paged.Paged.erase_own.Goals as goal

pub returns-then-is_none-clause-ok : goal.returns-then-is_none-clause-ok
returns-then-is_none-clause-ok g c =
    let none : map.get c.self.inside.table c.args.id ≡ None = absent _ c.read.result _ c.is_none.result c.read.ensures c.is_none.ensures c.if-is_none.true in
    sym c.self.view_is ∙ remove_absent c.self.inside.table c.args.id none ∙ ap (λ m. map.remove m c.args.id) c.self.view_is

pub overflow_sub-self : goal.overflow_sub-self
overflow_sub-self g c =
    let there : IsSome (map.get c.self.inside.table c.args.id) = present _ c.read.result _ c.is_none.result c.read.ensures c.is_none.ensures c.if-is_none.false in
    omega (arith, c.self.invariant, one_le_len c.self.inside.table c.args.id there)

pub invariant_of-self-2 : goal.invariant_of-self-2
invariant_of-self-2 g c =
    let there : IsSome (map.get c.self.inside.table c.args.id) = present _ c.read.result _ c.is_none.result c.read.ensures c.is_none.ensures c.if-is_none.false in
    len_out c.self.inside.table c.erase_own.new.self c.args.id c.self.inside.len c.self.invariant there c.in_ok-erase_own.ensures.ok
