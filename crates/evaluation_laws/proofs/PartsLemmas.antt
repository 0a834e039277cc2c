-- The parts of a file and its numbered formulas, statement by statement.
use Rattle.std.proofs.Common.{◌≡◌, ℕ, zero, suc, ◌+◌, List, [], ◌∷◌, Option, None, Some, refl, sym, ap, ◌∙◌, subst, arith}
use Rattle.std.specs.Prelude.{not, slice_get}
use Rattle.std.proofs.lemmas.Option.{slice_get_within, get_or_from_slice_get}
use Rattle.nxf_tree.specs.declared.tree.Signature.{Signature}
use Rattle.nxf_tree.specs.declared.tree.Formula.{Formula}
use Rattle.nxf_tree.specs.declared.tree.Role.{Role}
use Rattle.nxf_tree.specs.declared.tree.Body.TheVariants.{Formula as IsFormula, Typing as IsTyping, Logic as IsLogic}
use Rattle.nxf_tree.specs.declared.tree.Statement.{Statement}
use Rattle.nxf_tree.specs.declared.tree.Statement.TheVariants.{Annotated, Include}
use Rattle.nxf_tree.specs.declared.tree.File.{File}
use Rattle.nxf_tree.specs.declared.tree.Part.{Part}
use Rattle.nxf_tree.specs.declared.tree.Part.TheVariants.{Premise as IsPremise, Conjecture as IsConjecture}
use Rattle.nxf_tree.specs.declared.tree.PartEntry.{PartEntry}
use Rattle.nxf_tree.specs.Kripke.{KripkeModel}
use Rattle.nxf_tree.specs.Parts.{part_of, statement_part, and_part, part_entries}
use Rattle.nxf_tree.specs.Countermodels.{meets_part}
use Rattle.fin_struct.specs.declared.condition.Condition.{Condition}
use Rattle.numbered_definitions.specs.declared.node.Numbered.{Numbered}
use Rattle.numbered_definitions.specs.NamedForm.{FormulaStatement, named_form, named, all_named, formulas_from, formulas_of, IsSortedFormula}
use Rattle.kripke_evaluation_definitions.specs.FileConditions.{model_of}
use Rattle.numbered_definitions.proofs.CallerLemmas.{mapped, joined}
use Rattle.evaluation_laws.proofs.Evaluation.{evaluates}
use Rattle.kripke_evaluation_definitions.specs.FileConditions.{statement_at, meets_where_there, meets, and_premise, premises_from, and_conjecture, conjectures_from, premises_of, conjectures_of, condition_of, node_meets}
use Rattle.evaluation_laws.specs.FaultLaws.{PartsLaw}

-- the conditions of parts
premises-listed : (k : ℕ) (o : Option Part) (conditions : List Condition) (entries : List PartEntry) → conditions ≡ premises_of entries → and_premise k o conditions ≡ premises_of (and_part k o entries)
premises-listed k None conditions entries h = h
premises-listed k (Some part) conditions entries h = ap (and_premise k (Some part)) h

premises-are : (k : ℕ) (ss : List Statement) → premises_from k ss ≡ premises_of (part_entries k ss)
premises-are k [] = refl
premises-are k (s ∷ ss) = premises-listed k (statement_part s) _ _ (premises-are (suc k) ss)

conjectures-listed : (k : ℕ) (o : Option Part) (conditions : List Condition) (entries : List PartEntry) → conditions ≡ conjectures_of entries → and_conjecture k o conditions ≡ conjectures_of (and_part k o entries)
conjectures-listed k None conditions entries h = h
conjectures-listed k (Some part) conditions entries h = ap (and_conjecture k (Some part)) h

conjectures-are : (k : ℕ) (ss : List Statement) → conjectures_from k ss ≡ conjectures_of (part_entries k ss)
conjectures-are k [] = refl
conjectures-are k (s ∷ ss) = conjectures-listed k (statement_part s) _ _ (conjectures-are (suc k) ss)

-- the statement of a part
record PartThere (k : ℕ) (ss : List Statement) (place : ℕ) (part : Part) : Type 0 where
  pub at : ℕ
  pub name : List ℕ
  pub role : Role
  pub formula : Formula
  pub statement : slice_get ss at ≡ Some (Annotated name role (IsFormula formula))
  pub is : part_of role ≡ Some part
  pub number : place ≡ k + at

later : (k : ℕ) (s : Statement) (ss : List Statement) (place : ℕ) (part : Part) → PartThere (suc k) ss place part → PartThere k (s ∷ ss) place part
later k s ss place part t = record { at = suc t.at; name = t.name; role = t.role; formula = t.formula; statement = t.statement; is = t.is; number = omega (arith, t.number) }

part-there : (k : ℕ) (ss : List Statement) (j : ℕ) (entry : PartEntry) → slice_get (part_entries k ss) j ≡ Some entry → PartThere k ss entry.place entry.part
part-there k [] j entry h = absurd cc
part-there k (Annotated name role (IsTyping t) ∷ ss) j entry h = later k _ ss entry.place entry.part (part-there (suc k) ss j entry h)
part-there k (Annotated name role (IsLogic l) ∷ ss) j entry h = later k _ ss entry.place entry.part (part-there (suc k) ss j entry h)
part-there k (Include file names ∷ ss) j entry h = later k _ ss entry.place entry.part (part-there (suc k) ss j entry h)
part-there k (Annotated name role (IsFormula f) ∷ ss) j entry h = by (part_of role) refl j h (λ i e. part-there (suc k) ss i entry e)
  where
    by : (o : Option Part) → part_of role ≡ o → (i : ℕ) → slice_get (and_part k o (part_entries (suc k) ss)) i ≡ Some entry
        → ((i : ℕ) → slice_get (part_entries (suc k) ss) i ≡ Some entry → PartThere (suc k) ss entry.place entry.part) → PartThere k (Annotated name role (IsFormula f) ∷ ss) entry.place entry.part
    by None is i e next = later k _ ss entry.place entry.part (next i e)
    by (Some part) is zero e next =
        let own : ◌≡◌ {A = PartEntry} (record { place = k; part = part }) entry = cc in
        record { at = 0; name = name; role = role; formula = f; statement = refl; is = is ∙ ap (λ (x : PartEntry). Some x.part) own; number = sym (ap (λ (x : PartEntry). x.place) own) ∙ omega arith }
    by (Some part) is (suc i) e next = later k _ ss entry.place entry.part (next i e)

-- the statement of a formula, and the formula of a statement
record FormulaThere (k : ℕ) (ss : List Statement) (g : FormulaStatement) : Type 0 where
  pub at : ℕ
  pub role : Role
  pub statement : slice_get ss at ≡ Some (Annotated g.name role (IsFormula g.formula))
  pub number : g.place ≡ k + at

formula-later : (k : ℕ) (s : Statement) (ss : List Statement) (g : FormulaStatement) → FormulaThere (suc k) ss g → FormulaThere k (s ∷ ss) g
formula-later k s ss g t = record { at = suc t.at; role = t.role; statement = t.statement; number = omega (arith, t.number) }

formula-there : (k : ℕ) (ss : List Statement) (m : ℕ) (g : FormulaStatement) → slice_get (formulas_from k ss) m ≡ Some g → FormulaThere k ss g
formula-there k [] m g h = absurd cc
formula-there k (Annotated name role (IsTyping t) ∷ ss) m g h = formula-later k _ ss g (formula-there (suc k) ss m g h)
formula-there k (Annotated name role (IsLogic l) ∷ ss) m g h = formula-later k _ ss g (formula-there (suc k) ss m g h)
formula-there k (Include file names ∷ ss) m g h = formula-later k _ ss g (formula-there (suc k) ss m g h)
formula-there k (Annotated name role (IsFormula f) ∷ ss) zero g h =
    let own : ◌≡◌ {A = FormulaStatement} (record { place = k; name = name; formula = f }) g = cc in
    record { at = 0; role = role; statement = ap (λ (x : FormulaStatement). Some (Annotated x.name role (IsFormula x.formula))) own; number = sym (ap (λ (x : FormulaStatement). x.place) own) ∙ omega arith }
formula-there k (Annotated name role (IsFormula f) ∷ ss) (suc m) g h = formula-later k _ ss g (formula-there (suc k) ss m g h)

record FormulaListed (k : ℕ) (ss : List Statement) (place : ℕ) : Type 0 where
  pub m : ℕ
  pub g : FormulaStatement
  pub listed : slice_get (formulas_from k ss) m ≡ Some g
  pub number : g.place ≡ place

formula-listed : (k : ℕ) (ss : List Statement) (i : ℕ) (name : List ℕ) (role : Role) (f : Formula) → slice_get ss i ≡ Some (Annotated name role (IsFormula f)) → FormulaListed k ss (k + i)
formula-listed k [] i name role f h = absurd cc
formula-listed k (Annotated n r (IsFormula g) ∷ ss) zero name role f h = record { m = 0; g = record { place = k; name = n; formula = g }; listed = refl; number = omega arith }
formula-listed k (Annotated n r (IsTyping t) ∷ ss) zero name role f h = absurd cc
formula-listed k (Annotated n r (IsLogic l) ∷ ss) zero name role f h = absurd cc
formula-listed k (Include n ns ∷ ss) zero name role f h = absurd cc
formula-listed k (Annotated n r (IsFormula g) ∷ ss) (suc i) name role f h = let t = formula-listed (suc k) ss i name role f h in record { m = suc t.m; g = t.g; listed = t.listed; number = t.number ∙ omega arith }
formula-listed k (Annotated n r (IsTyping t) ∷ ss) (suc i) name role f h = let t = formula-listed (suc k) ss i name role f h in record { m = t.m; g = t.g; listed = t.listed; number = t.number ∙ omega arith }
formula-listed k (Annotated n r (IsLogic l) ∷ ss) (suc i) name role f h = let t = formula-listed (suc k) ss i name role f h in record { m = t.m; g = t.g; listed = t.listed; number = t.number ∙ omega arith }
formula-listed k (Include n ns ∷ ss) (suc i) name role f h = let t = formula-listed (suc k) ss i name role f h in record { m = t.m; g = t.g; listed = t.listed; number = t.number ∙ omega arith }

-- numbered formulas and those that they stand for
record NamedThere (sig : Signature) (gs : List FormulaStatement) (m : ℕ) (n : Numbered) : Type 0 where
  pub g : FormulaStatement
  pub there : slice_get gs m ≡ Some g
  pub is : named sig n ≡ Some g

module _ (sig : Signature) where
  named-there : (ns : List Numbered) (gs : List FormulaStatement) (m : ℕ) (n : Numbered) → all_named sig ns ≡ Some gs → slice_get ns m ≡ Some n → NamedThere sig gs m n
  named-there [] gs m n h e = absurd cc
  named-there (x ∷ ns) gs zero n h e =
      joined (λ f fs. f ∷ fs) (named sig x) (all_named sig ns) gs h (λ f fs at rest is.
      let own : x ≡ n = cc in
      record { g = f; there = ap (λ l. slice_get l 0) (sym is); is = ap (named sig) (sym own) ∙ at })
  named-there (x ∷ ns) gs (suc m) n h e =
      joined (λ f fs. f ∷ fs) (named sig x) (all_named sig ns) gs h (λ f fs at rest is.
      let t = named-there ns fs m n rest e in
      record { g = t.g; there = ap (λ l. slice_get l (suc m)) (sym is) ∙ t.there; is = t.is })

  number-there : (ns : List Numbered) (gs : List FormulaStatement) (m : ℕ) (g : FormulaStatement) → all_named sig ns ≡ Some gs → slice_get gs m ≡ Some g → (n : Numbered) × (slice_get ns m ≡ Some n) × (named sig n ≡ Some g)
  number-there [] gs m g h e = let is : ◌≡◌ {A = List FormulaStatement} [] gs = cc in absurd (nothing (ap (λ l. slice_get l m) is ∙ e))
    where
      nothing : ◌≡◌ {A = Option FormulaStatement} None (Some g) → ⊥
      nothing k = cc
  number-there (x ∷ ns) gs zero g h e =
      joined (λ f fs. f ∷ fs) (named sig x) (all_named sig ns) gs h (λ f fs at rest is.
      (x, refl, at ∙ (ap (λ l. slice_get l 0) is ∙ e)))
  number-there (x ∷ ns) gs (suc m) g h e =
      joined (λ f fs. f ∷ fs) (named sig x) (all_named sig ns) gs h (λ f fs at rest is.
      number-there ns fs m g rest (ap (λ l. slice_get l (suc m)) is ∙ e))

  -- what a numbered formula stands for
  record StandsFor (n : Numbered) (g : FormulaStatement) : Type 0 where
    pub formula : named_form sig [] n.node ≡ Some g.formula
    pub place : n.place ≡ g.place

  stands-for : (n : Numbered) (g : FormulaStatement) → named sig n ≡ Some g → StandsFor n g
  stands-for n g h =
      mapped (λ (f : Formula). record { place = n.place; name = n.name; formula = f }) (named_form sig [] n.node) g h (λ f at is.
      record { formula = at ∙ ap (λ (x : FormulaStatement). Some x.formula) is; place = ap (λ (x : FormulaStatement). x.place) is })

-- what a part asks
asked : (sig : Signature) (file : File) (K : KripkeModel) (i place : ℕ) (name : List ℕ) (role : Role) (f : Formula) (part : Part) → place ≡ suc i → slice_get file.statements i ≡ Some (Annotated name role (IsFormula f)) → part_of role ≡ Some part
    → meets sig file K (condition_of place part) ≡ meets_part K f (Some part)
asked sig file K i place name role f (IsPremise scope) number at is =
    ap (λ k. meets_where_there K (statement_at file.statements k)) number ∙ ap (meets_where_there K) at ∙ ap (meets_part K f) is
asked sig file K i place name role f (IsConjecture scope) number at is =
    ap (λ k. meets_where_there K (statement_at file.statements k)) number ∙ ap (meets_where_there K) at ∙ ap (meets_part K f) is

some-same : (s t : Statement) → Some s ≡ Some t → s ≡ t
some-same s t h = cc

formula-same : (n m : List ℕ) (r q : Role) (f g : Formula) → Annotated n r (IsFormula f) ≡ Annotated m q (IsFormula g) → f ≡ g
formula-same n m r q f g h = cc

pub parts-law : PartsLaw
parts-law sig file view formulas wf is over names sorted = record {
  premises = premises-are 1 file.statements;
  conjectures = conjectures-are 1 file.statements;
  there = λ j entry at.
      let t = part-there 1 file.statements j entry at in
      let listed = formula-listed 1 file.statements t.at t.name t.role t.formula t.statement in
      let n = number-there sig formulas (formulas_of file) listed.m listed.g names listed.listed in
      (listed.m, n.0, n.1, (stands-for sig n.0 listed.g n.2).place ∙ listed.number ∙ sym t.number);
  same = λ j k entry n at listed number.
      let t = part-there 1 file.statements j entry at in
      let m = named-there sig formulas (formulas_of file) k n names listed in
      let s = stands-for sig n m.g m.is in
      let there = formula-there 1 file.statements k m.g m.there in
      let places : there.at ≡ t.at = omega (arith, there.number, t.number, number, s.place) in
      let f : m.g.formula ≡ t.formula = formula-same m.g.name t.name there.role t.role m.g.formula t.formula (some-same _ _ (sym there.statement ∙ ap (slice_get file.statements) places ∙ t.statement)) in
      let named : named_form sig [] n.node ≡ Some t.formula = s.formula ∙ ap Some f in
      asked sig file (model_of sig view) t.at entry.place t.name t.role t.formula entry.part (omega (arith, t.number)) t.statement t.is
      ∙ met n t.formula named (own k n listed) entry.part;
}
  where
    own : (k : ℕ) (n : Numbered) → slice_get formulas k ≡ Some n → IsSortedFormula sig n.node
    own k n at = subst (λ (m : Numbered). IsSortedFormula sig m.node) (get_or_from_slice_get formulas k n n at) (sorted k n (slice_get_within formulas k n at))

    met : (n : Numbered) (f : Formula) → named_form sig [] n.node ≡ Some f → IsSortedFormula sig n.node → (part : Part) → meets_part (model_of sig view) f (Some part) ≡ node_meets view part n.node
    met n f named s (IsPremise scope) = sym ((evaluates sig view wf is over n.node f named s).counts scope)
    met n f named s (IsConjecture scope) = ap not (sym ((evaluates sig view wf is over n.node f named s).counts scope))
