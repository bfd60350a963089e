-- Lists in which something holds of each element.
use Rattle.std.proofs.Common.{Bool, List, [], ◌∷◌, ◌++◌, filter}
use Rattle.std.specs.List.{All}
use Rattle.std.proofs.lemmas.List.Elements.{All-nil, All-cons}
use Rattle.ax_trees.proofs.Trees.{by_go}
use Rattle.ax_place_laws.specs.Lists.{EachOf}

pub each_append : {A : Type 0} (P : A → Type 0) (xs ys : List A) → EachOf P xs → EachOf P ys → EachOf P (xs ++ ys)
each_append P [] ys h k = k
each_append P (x ∷ xs) ys h k = (h.0, each_append P xs ys h.1 k)

pub each_weaker : {A : Type 0} (P Q : A → Type 0) (l : List A) → ((x : A) → P x → Q x) → EachOf P l → EachOf Q l
each_weaker P Q [] h e = tt
each_weaker P Q (x ∷ l) h e = (h x e.0, each_weaker P Q l h e.1)

pub each_kept : {A : Type 0} (P : A → Type 0) (keep : A → Bool) (l : List A) → EachOf P l → EachOf P (filter keep l)
each_kept P keep [] e = tt
each_kept P keep (x ∷ l) e = by_go (keep x) (λ q. rw q (e.0, each_kept P keep l e.1)) (λ q. rw q (each_kept P keep l e.1))

pub all_of_each : {A : Type 0} (P : A → Type 0) (l : List A) → EachOf P l → All P l
all_of_each P [] e = All-nil P
all_of_each P (x ∷ l) e = All-cons P x l e.0 (all_of_each P l e.1)
