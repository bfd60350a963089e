use Rattle.ax_pages.proofs.MapLemmas.{len_put}
use Rattle.ax_pages.proofs.paged.Paged.write_own.Goals as goal

pub invariant_of-self-2 : goal.invariant_of-self-2
invariant_of-self-2 g c =
    len_put c.self.inside.table c.write_own.new.self c.args.self.now c.args.id c.in_ok-len.len c.args.value c.self.view_is c.in_ok-len.ensures c.in_ok-write_own.ensures.ok
