-- The places of the passes of all frames.
use Rattle.std.proofs.Common.{◌≡◌, ℕ, List, [], ◌∷◌, ◌++◌, map, sym, refl, ap, ◌∙◌}
use Rattle.ax_frame.specs.Frames.{Journaled}
use Rattle.ax_hub.specs.Closing.{AreMade}
use Rattle.ax_stays.proofs.Cuts.{cuts_in}

map_push : (frames : List Journaled) (f : Journaled) → map cuts_in (frames ++ f ∷ []) ≡ map cuts_in frames ++ cuts_in f ∷ []
map_push [] f = refl
map_push (g ∷ frames) f = ap (λ l. cuts_in g ∷ l) (map_push frames f)

pub made_more : (frames more : List Journaled) (made after : List (List ℕ)) (f : Journaled) (own : List ℕ) → more ≡ frames ++ f ∷ [] → after ≡ made ++ own ∷ [] → own ≡ cuts_in f → AreMade frames made → AreMade more after
made_more frames more made after f own is has same h = has ∙ ((λ i. h i ++ same i ∷ []) ∙ (sym (map_push frames f) ∙ ap (map cuts_in) (sym is)))
