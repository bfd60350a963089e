use Rattle.std.proofs.Common.{◌∙◌, arith}
use Rattle.ax_pages.proofs.SlotLemmas.{Lengthened, longer}
use Rattle.ax_pages.proofs.page.Page.lengthen.Goals as goal

pub loop-self-preserved : goal.loop-self-preserved
loop-self-preserved g c =
    let more : Lengthened c.loop-self.self-inside.slots.items c.push.new.self.items = longer _ _ _ c.push.ensures.items in
    record {
      slots = λ j. more.slots j ∙ c.loop-self.invariant.slots j;
      used = more.used ∙ c.loop-self.invariant.used;
      counted = c.loop-self.invariant.counted;
      short = omega (arith, more.len, c.len.ensures);
    }
