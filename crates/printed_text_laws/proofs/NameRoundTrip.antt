-- The spelling of a name is read as the name.
use Rattle.std.proofs.Common.{◌≡◌, ℕ, true, List, [], ◌∷◌, sym, subst, ◌∙◌, append-nil}
use Rattle.std.specs.Prelude.{IsTrue, ◌↔◌}
use Rattle.nxf_tree.specs.declared.profile.Profile.{Profile}
use Rattle.nxf_terminals.specs.Input.{Input}
use Rattle.nxf_base.specs.Bytes.{is_printable_text}
use Rattle.syntax_definitions.specs.Statements.{IsName}
use Rattle.syntax_definitions.specs.Statements as s
use Rattle.nxf_tree.specs.Text.{name_text, is_bare}
use Rattle.printed_text_laws.specs.SpelledNames.{SpellsName}
use Rattle.printed_text_laws.proofs.LexedAs.{IsLexedAs, nothing_lexed, tokens_are}
use Rattle.printed_text_laws.proofs.Literals as literals
use Rattle.printed_text_laws.proofs.Spellings.{name_back, bare_name, bare_only}
use Rattle.printed_text_laws.proofs.Items.{name_item}

name_read : (a : List ℕ) → IsName (name_item a ∷ []) a []
name_read a = subst (λ (b : List ℕ). IsName (name_item a ∷ []) b []) (name_back a) s.name

name_spelled : (p : Profile) (a : List ℕ) → is_printable_text a ≡ true → SpellsName p (name_text a) a
name_spelled p a h =
    let l = subst (λ (x : List ℕ). IsLexedAs p x (name_item a ∷ [])) (append-nil (name_text a)) ((literals.name p a h).lexed [] [] tt (nothing_lexed p)) in
    let t = tokens_are p (name_text a) (name_item a ∷ []) l in
    (t.0, t.1, subst (λ (i : Input). IsName i a []) (sym t.2) (name_read a))

-- what a call that prints a name ensures
pub printed_name : (p : Profile) (a text : List ℕ) → text ≡ name_text a → is_printable_text a ≡ true → SpellsName p text a
printed_name p a text is h = subst (λ (s : List ℕ). SpellsName p s a) (sym is) (name_spelled p a h)

pub printed_bare : (a text : List ℕ) → text ≡ name_text a → (text ≡ a) ↔ IsTrue (is_bare a)
printed_bare a text is = ((λ e. bare_only a (sym is ∙ e)), (λ h. is ∙ bare_name a h))
