-- Histories go on from each front of them.
use Rattle.std.proofs.Common.{ℕ, ◌+◌, ◌≡◌, ◌≤◌, Bool, true, false, cond, ◌||◌, List, [], ◌∷◌, ◌++◌, length, filter, refl, sym, ap, ◌∙◌, subst, arith, append_assoc, append-nil, le_trans, le_refl}
use Rattle.ax_tree.specs.declared.packet.HEntry.{HEntry}
use Rattle.ax_rules.specs.Sequences.{until}
use Rattle.ax_rules.specs.Histories.{ends, asks, is_gone, token_of, got}
use Rattle.ax_rules.specs.Laws.{Begins, applied_by, changes_from, changes_of}
use Rattle.ax_rules.proofs.Appends.{is_gone-append, got-append}
use Rattle.ax_rules.proofs.Tokens.{token-append}

pub begins_itself : {A : Type 0} (xs : List A) → Begins xs xs
begins_itself xs = record { rest = []; joined = sym (append-nil xs) }

pub begins_joined : {A : Type 0} (xs ys : List A) → Begins (xs ++ ys) xs
begins_joined xs ys = record { rest = ys; joined = refl }

pub begins_after : {A : Type 0} (xs ys zs : List A) → xs ≡ ys → Begins (xs ++ zs) ys
begins_after xs ys zs h = record { rest = zs; joined = ap (λ l. l ++ zs) h }

longer : {A : Type 0} (xs ys zs back more : List A) → ys ≡ xs ++ back → zs ≡ ys ++ more → zs ≡ xs ++ (back ++ more)
longer xs ys zs back more h k = k ∙ (ap (λ l. l ++ more) h ∙ append_assoc xs back more)

pub begins_on : {A : Type 0} (xs ys zs : List A) → Begins ys xs → Begins zs ys → Begins zs xs
begins_on xs ys zs h k = record { rest = h.rest ++ k.rest; joined = longer xs ys zs h.rest k.rest h.joined k.joined }

-- ---- histories

-- something that each entry keeps is kept by all
pub kept_by_all : (P : List HEntry → Type 0) → ((h : List HEntry) (e : HEntry) → P h → P (h ++ e ∷ [])) → (h back : List HEntry) → P h → P (h ++ back)
kept_by_all P step h [] p = subst P (sym (append-nil h)) p
kept_by_all P step h (e ∷ back) p = subst P (append_assoc h (e ∷ []) back) (kept_by_all P step (h ++ e ∷ []) back (step h e p))

gone_stays : (a b : Bool) → a ≡ true → (a || b) ≡ true
gone_stays true b h = refl
gone_stays false b h = absurd (cc)

pub gone_on : (h back : List HEntry) (t : ℕ) → is_gone h t ≡ true → is_gone (h ++ back) t ≡ true
gone_on h back t = kept_by_all (λ g. is_gone g t ≡ true) (λ g e p. is_gone-append g e t ∙ gone_stays (is_gone g t) (ends t e) p) h back

no_less : (b : Bool) (n m : ℕ) → n ≤ cond b n (n + m)
no_less true n m = le_refl n
no_less false n m = omega arith

pub token_on : (h back : List HEntry) (t : ℕ) → token_of h t ≤ token_of (h ++ back) t
token_on h back t =
    kept_by_all (λ g. token_of h t ≤ token_of g t)
    (λ g e p. le_trans p (subst (λ n. token_of g t ≤ n) (sym (token-append g e t)) (no_less (is_gone g t) (token_of g t) (length (filter (asks t) (until (ends t) (e ∷ [])))))))
    h back (le_refl (token_of h t))

pub packets_on : (h back : List HEntry) (t : ℕ) → Begins (got (h ++ back) t) (got h t)
packets_on h back t = record { rest = got back t; joined = got-append h back t }

changes_from-append : (t : ℕ) (before h back : List HEntry) → changes_from t before (h ++ back) ≡ changes_from t before h ++ changes_from t (before ++ h) back
changes_from-append t before [] back = ap (λ b. changes_from t b back) (sym (append-nil before))
changes_from-append t before (e ∷ h) back =
    ap (λ l. applied_by t before e ++ l)
    (changes_from-append t (before ++ e ∷ []) h back ∙ ap (λ b. changes_from t (before ++ e ∷ []) h ++ changes_from t b back) (append_assoc before (e ∷ []) h))
    ∙ sym (append_assoc (applied_by t before e) (changes_from t (before ++ e ∷ []) h) (changes_from t (before ++ e ∷ h) back))

pub changes_on : (h back : List HEntry) (t : ℕ) → Begins (changes_of (h ++ back) t) (changes_of h t)
changes_on h back t = record { rest = changes_from t h back; joined = changes_from-append t [] h back }
