use Rattle.std.proofs.Common.{◌≡◌, ℕ, true, List, rules, ap, ◌∙◌, sym}
use Rattle.std.specs.Str.{chars, IsUtf8}
use Rattle.std.specs.Prelude.{encode_utf8_all}
use Rattle.std.proofs.lemmas.Str.{chars-encodes}
use Rattle.std.proofs.lemmas.Slice.Eq.{bytes_eq-Decides}
use Rattle.ax_base.proofs.text.Text.same.Goals as goal

-- a text is told by its scalars
told_by_chars : (bs ds : List ℕ) → IsUtf8 bs → IsUtf8 ds → chars bs ≡ chars ds → bs ≡ ds
told_by_chars bs ds u v h =
    sym u.1.1 ∙ ap encode_utf8_all (sym (chars-encodes u.0 u.1.0) ∙ ap chars u.1.1 ∙ h ∙ sym (ap chars v.1.1) ∙ chars-encodes v.0 v.1.0) ∙ v.1.1

pub returns : goal.returns
returns c =
    let alike : c.eq.result ≡ true → c.as_str.result.now ≡ c.as_str-2.result.now = search (rules, bytes_eq-Decides) in
    let back : c.as_str.result.now ≡ c.as_str-2.result.now → c.eq.result ≡ true = search (rules, bytes_eq-Decides) in (
      λ t. sym c.as_str.ensures ∙ ap chars (alike t) ∙ c.as_str-2.ensures,
      λ e. back (told_by_chars _ _ c.as_str.utf8 c.as_str-2.utf8 (c.as_str.ensures ∙ e ∙ sym c.as_str-2.ensures)),
    )
