use Rattle.std.proofs.Common.{◌≡◌, ◌+◌, Some, None, is_some, nat_eq, slice_get, refl, sym, ap, ◌∙◌, subst, arith}
use Rattle.std.proofs.lemmas.Option.{slice_get_read}
use Rattle.indexmap.specs.IndexMap.{get}
use Rattle.ax_marks.proofs.TogetherLemmas.{IsMoving, moving_start, moving_none, moving_some, moving_end, is_ahead}
use Rattle.ax_marks.proofs.mark_list.together.Goals as goal

pub loop-id-init : goal.loop-id-init
loop-id-init c = record {
  moving = subst (λ ys. IsMoving c.args.order.now ys (λ id. get nat_eq c.args.places.now id) 0) (sym c.requires.empty) (moving_start _ _ c.requires.placed);
  room = c.requires.room;
  count = refl;
}

pub loop-id-preserved-in-None : goal.loop-id-preserved-in-None
loop-id-preserved-in-None c =
    let hole : slice_get c.args.order.now c.loop-id.id-index ≡ Some None = slice_get_read c.args.order.now _ _ c.id-item.result refl c.loop-id-test.true c.id-item.is ∙ ap Some c.in-None.is in
    record {
      moving = moving_none _ _ _ _ c.loop-id.invariant.moving hole;
      room = c.loop-id.invariant.room;
      count = c.loop-id.invariant.count;
    }

pub move_to_end-requires-clause-there : goal.move_to_end-requires-clause-there
move_to_end-requires-clause-there c =
    let mark : slice_get c.args.order.now c.loop-id.id-index ≡ Some (Some c.in-Some.id) = slice_get_read c.args.order.now _ _ c.id-item.result refl c.loop-id-test.true c.id-item.is ∙ ap Some c.in-Some.is in
    ap is_some (is_ahead _ _ _ _ _ c.loop-id.invariant.moving mark)

pub loop-id-preserved : goal.loop-id-preserved
loop-id-preserved c =
    let mark : slice_get c.args.order.now c.loop-id.id-index ≡ Some (Some c.in-Some.id) = slice_get_read c.args.order.now _ _ c.id-item.result refl c.loop-id-test.true c.id-item.is ∙ ap Some c.in-Some.is in
    let moved = moving_some _ _ _ (λ id. get nat_eq c.move_to_end.new.places id) _ _ c.loop-id.invariant.moving mark c.move_to_end.ensures.places in
    record {
      moving = subst (λ ys. IsMoving c.args.order.now ys (λ id. get nat_eq c.move_to_end.new.places id) (c.loop-id.id-index + 1)) (sym c.move_to_end.ensures.items) moved;
      room = omega (arith, c.loop-id.invariant.room, c.move_to_end.ensures.room);
      count = c.move_to_end.ensures.count ∙ c.loop-id.invariant.count;
    }

pub returns-clause-items : goal.returns-clause-items
returns-clause-items c = (moving_end _ _ _ _ c.loop-id.invariant.moving c.loop-id-test.false).0

pub returns-clause-placed : goal.returns-clause-placed
returns-clause-placed c = (moving_end _ _ _ _ c.loop-id.invariant.moving c.loop-id-test.false).1
