use Rattle.std.proofs.Common.{rules, ◌≡◌, ◌∷◌, [], Some, refl}
use Rattle.ax_turn.proofs.Steps.{begins}
use Rattle.ax_turn.proofs.turn.Turn.new.Goals as goal

pub new-requires : goal.new-requires
new-requires g c = let items : c.push_reserved.new.self.items ≡ Some c.args.value ∷ [] = search rules in
    rw (c.of.ensures, items) (begins _ _ _ _ _ c.args.value refl c.requires.makers c.requires.made)
