-- The small classical signature is well formed, and its formulas are well sorted.
use Rattle.std.proofs.Common.{◌≡◌, true, List, [], ◌∷◌, ◌++◌, refl, ap, ◌∙◌, arith}
use Rattle.std.specs.Prelude.{◌&&◌, codes, None}
use Rattle.std.specs.List.{list_all}
use Rattle.std.proofs.lemmas.List.Folds.{list_all-append}
use Rattle.std.proofs.lemmas.List.Elements.{All-nil, All-cons}
use Rattle.nxf_tree.specs.declared.tree.TableEntry.{TableEntry}
use Rattle.nxf_tree.specs.declared.tree.Term.{Term, App}
use Rattle.nxf_tree.specs.declared.tree.Formula.{Formula, Atom, And}
use Rattle.nxf_tree.specs.Names.{actual_name, world_name}
use Rattle.nxf_tree.specs.Shapes.{Name_is}
use Rattle.nxf_tree.specs.Sorting.{Bound, classical_language}
use Rattle.classical_evaluation_definitions.specs.ClassicalSorting.{is_classical, IsGoodTable, IsWellFormedClassical}
use Rattle.classical_evaluation_laws.proofs.SatCases.{sorted_of_And}
use Rattle.evaluation_tests.specs.Flat.{flat, IsFlat}

abbrev predicate : TableEntry
predicate = record { name = codes "p"; args = 0 ∷ []; gives = None }

good : IsGoodTable 1 predicate
good = record { args = (omega arith, tt); gives = tt; few = omega arith }

pub flat_formed : IsWellFormedClassical flat
unfolding actual_name world_name
flat_formed = record {
  different = record { names = refl };
  worlds = refl;
  tables = All-cons (λ (entry : TableEntry). IsGoodTable 1 entry) predicate [] good (All-nil (λ (entry : TableEntry). IsGoodTable 1 entry));
  few_sorts = omega arith;
  few_tables = omega arith;
}

pub atom_flat : IsFlat (Atom (codes "p") (App actual_name [] ∷ []))
unfolding actual_name world_name
atom_flat b = ap (λ (t : Term). is_classical (classical_language flat) b (Atom (codes "p") (t ∷ []))) (Name_is actual_name) ∙ refl

-- each of them is so
abbrev pub AreFlat : List Formula → Type 0
AreFlat fs = (b : Bound) → list_all (is_classical (classical_language flat) b) fs ≡ true

pub flat_push : (fs : List Formula) (f : Formula) → AreFlat fs → IsFlat f → AreFlat (fs ++ f ∷ [])
flat_push fs f h k b =
    list_all-append (is_classical (classical_language flat) b) fs (f ∷ [])
    ∙ (λ i. h b i && (k b i && true))

pub and_flat : (fs : List Formula) → AreFlat fs → IsFlat (And fs)
and_flat fs h b = sorted_of_And (classical_language flat) b fs ∙ h b
