-- What a text spells, and its first fault, are what its tokens say.
use Rattle.std.proofs.Common.{◌≡◌, ◌≢◌, ℕ, ◌+◌, List, ◌++◌, Option, None, Some, refl, sym, ◌∙◌, ap, subst, inl, inr}
use Rattle.std.specs.Prelude.{◌==◌, ◌⊎◌}
use Rattle.std.proofs.lemmas.Bool.{eqb-true}
use Rattle.directive_text.specs.declared.tree.Directive.{Directive}
use Rattle.directive_text.specs.Internals.Tokens.{Fault, fault_of, Says}
use Rattle.directive_text.specs.Spelling.{line_feeds, Spells}
use Rattle.directive_text.specs.Faults.{HasFault, too_short}
use Rattle.directive_text.specs.Printing.{printed, Fits}
use Rattle.directive_text.proofs.TextPlaces.{tells}
use Rattle.directive_text.proofs.LastLine.{last-line}
use Rattle.directive_text.proofs.Staying.{faults-stay}
use Rattle.directive_text.proofs.Unique.{unique}
use Rattle.directive_text.proofs.Printed.{printed-spells}
use Rattle.directive_text.proofs.Fitting.{spelled-fits}
use Rattle.directive_text.proofs.Spelled.{spells-says}
use Rattle.directive_text.proofs.Parsed.{sound-spelled}
use Rattle.directive_text.proofs.Faulty.{fault-tokens, tokens-other}
use Rattle.directive_text.proofs.Continued.{continued}

-- what tokens say is spelled so
pub says-spells : (text : List ℕ) (ds : List Directive) → Says text ds → Spells text ds
says-spells text ds s =
    let t = sound-spelled text s.sound in
    let says = spells-says text t.0 t.1 in
    subst (Spells text) (unique t.0 ds (sym says.marks ∙ s.marks)) t.1

-- a fault of the tokens is the text's
pub tokens-fault : (text : List ℕ) (f : Fault) → fault_of text ≡ Some f → HasFault text f.line f.kind
tokens-fault text f e = elim (tells (f.kind == 2)) [
  | inl h ↦
      let kind = eqb-true f.kind 2 h in
      let more = continued text f e kind in
      let t = sound-spelled (text ++ more.0) more.1 in
      let none : (others : List Directive) → ¬ Spells text others = λ others s. let sound = (spells-says text others s).sound in cc in
      subst (λ n. HasFault text n f.kind) (sym (last-line text f e kind)) (subst (λ n. HasFault text (1 + line_feeds text) n) (sym kind) (too_short more.0 t.0 t.1 none))
  | inr h ↦ tokens-other text f (λ k. cc) e
]

-- a tree or a fault
tells_fault : (text : List ℕ) (o : Option Fault) → fault_of text ≡ o → ((ds : List Directive) × Spells text ds) ⊎ ((line kind : ℕ) × HasFault text line kind)
tells_fault text None e = inl (sound-spelled text e)
tells_fault text (Some f) e = inr (f.line, f.kind, tokens-fault text f e)

pub either : (text : List ℕ) → ((ds : List Directive) × Spells text ds) ⊎ ((line kind : ℕ) × HasFault text line kind)
either text = tells_fault text (fault_of text) refl

pub one_tree : (text : List ℕ) (these those : List Directive) → Spells text these → Spells text those → these ≡ those
one_tree text these those s t = unique these those (sym (spells-says text these s).marks ∙ (spells-says text those t).marks)

pub one_fault : (text : List ℕ) (line kind other_line other_kind : ℕ) → HasFault text line kind → HasFault text other_line other_kind → (line ≡ other_line) × (kind ≡ other_kind)
one_fault text line kind other_line other_kind h i =
    let f : Fault = record { line = line; kind = kind } in
    let g : Fault = record { line = other_line; kind = other_kind } in
    let both : Some f ≡ Some g = sym (fault-tokens h) ∙ fault-tokens i in
    let same : f ≡ g = cc in
    (ap (λ (x : Fault). x.line) same, ap (λ (x : Fault). x.kind) same)

pub not_both : (text : List ℕ) (ds : List Directive) (line kind : ℕ) → Spells text ds → ¬ HasFault text line kind
not_both text ds line kind s h =
    let sound = (spells-says text ds s).sound in
    let fault = fault-tokens h in
    cc

pub stays : (text more : List ℕ) (line kind : ℕ) → HasFault text line kind → kind ≢ 2 → HasFault (text ++ more) line kind
stays text more line kind h other = tokens-fault (text ++ more) (record { line = line; kind = kind }) (faults-stay text more _ (fault-tokens h) other)

pub on_last_line : (text : List ℕ) (line : ℕ) → HasFault text line 2 → line ≡ 1 + line_feeds text
on_last_line text line h = last-line text _ (fault-tokens h) refl

pub printed_spells : (ds : List Directive) → Fits ds → Spells (printed ds) ds
printed_spells ds f = says-spells (printed ds) ds (printed-spells ds f)

pub spelled_fits : (text : List ℕ) (ds : List Directive) → Spells text ds → Fits ds
spelled_fits text ds s = spelled-fits text ds (spells-says text ds s)
