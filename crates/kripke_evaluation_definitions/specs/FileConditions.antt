-- What a whole file asks of a Kripke structure, condition by condition in the order in which faults are named: what its signature asks, by
-- `FirstFault` of `fin_struct`, and then that its premises hold and its conjecture doesn't, by `Countermodels` of `nxf_tree`.
use Rattle.std.specs.Prelude.{ℕ, zero, suc, Bool, true, not, List, [], ◌∷◌, ◌++◌, slice_get, Option, None, Some}
use Rattle.nxf_tree.specs.declared.tree.Signature.{Signature}
use Rattle.nxf_tree.specs.declared.tree.Statement.{Statement}
use Rattle.nxf_tree.specs.declared.tree.File.{File}
use Rattle.nxf_tree.specs.declared.tree.Part.{Part}
use Rattle.nxf_tree.specs.declared.tree.Part.TheVariants.{Premise as IsPremise, Conjecture as IsConjecture}
use Rattle.nxf_tree.specs.declared.tree.PartEntry.{PartEntry}
use Rattle.nxf_tree.specs.Kripke.{KripkeModel}
use Rattle.nxf_tree.specs.Parts.{statement_part}
use Rattle.nxf_tree.specs.Structures.{kripke_model}
use Rattle.nxf_tree.specs.Countermodels.{meets_statement}
use Rattle.fin_struct.specs.declared.condition.Condition.{Condition}
use Rattle.fin_struct.specs.declared.condition.Condition.TheVariants.{Frame, Empty, Union, Monotone, Local, Premise, Conjecture}
use Rattle.fin_struct.specs.FirstFault.{meets_condition, frame_conditions, domain_conditions, term_conditions}
use Rattle.fin_struct.specs.KripkeTables.{KripkeTables, kripke_structure}
use Rattle.numbered_definitions.specs.declared.node.Node.{Node}
use Rattle.kripke_evaluation_definitions.specs.NumberedMeaning.{node_holds_in}

-- the model that a structure in tables is
abbrev pub model_of : Signature → KripkeTables → KripkeModel
model_of sig view = kripke_model sig (kripke_structure view)

-- the statement with the number, counted from 1
abbrev pub statement_at : List Statement → ℕ → Option Statement
statement_at ss zero = None
statement_at ss (suc n) = slice_get ss n

abbrev pub meets_where_there : KripkeModel → Option Statement → Bool
meets_where_there K None = true
meets_where_there K (Some s) = meets_statement K s

-- whether the model meets the condition: a premise holds where it counts, and the conjecture doesn't
abbrev pub meets : Signature → File → KripkeModel → Condition → Bool
meets sig file K (Frame i scheme) = meets_condition sig K (Frame i scheme)
meets sig file K (Empty s) = meets_condition sig K (Empty s)
meets sig file K (Union s) = meets_condition sig K (Union s)
meets sig file K (Monotone s i) = meets_condition sig K (Monotone s i)
meets sig file K (Local f) = meets_condition sig K (Local f)
meets sig file K (Premise n) = meets_where_there K (statement_at file.statements n)
meets sig file K (Conjecture n) = meets_where_there K (statement_at file.statements n)

-- the same of a structure in tables
abbrev pub meets_by_file : Signature → File → KripkeTables → Condition → Bool
meets_by_file sig file view = meets sig file (model_of sig view)

-- the premises; k is the number of the first of these statements
abbrev pub and_premise : ℕ → Option Part → List Condition → List Condition
and_premise k None rest = rest
and_premise k (Some (IsPremise scope)) rest = Premise k ∷ rest
and_premise k (Some (IsConjecture scope)) rest = rest

abbrev pub premises_from : ℕ → List Statement → List Condition
premises_from k [] = []
premises_from k (s ∷ ss) = and_premise k (statement_part s) (premises_from (suc k) ss)

abbrev pub premise_conditions : File → List Condition
premise_conditions file = premises_from 1 file.statements

-- the conjecture; a file in the profile has one at most
abbrev pub and_conjecture : ℕ → Option Part → List Condition → List Condition
and_conjecture k None rest = rest
and_conjecture k (Some (IsPremise scope)) rest = rest
and_conjecture k (Some (IsConjecture scope)) rest = Conjecture k ∷ rest

abbrev pub conjectures_from : ℕ → List Statement → List Condition
conjectures_from k [] = []
conjectures_from k (s ∷ ss) = and_conjecture k (statement_part s) (conjectures_from (suc k) ss)

abbrev pub conjecture_conditions : File → List Condition
conjecture_conditions file = conjectures_from 1 file.statements

-- the premises, and then the conjecture
abbrev pub part_conditions : File → List Condition
part_conditions file = premise_conditions file ++ conjecture_conditions file

-- all conditions in their order
abbrev pub all_conditions : Signature → File → List Condition
all_conditions sig file = frame_conditions sig ++ (domain_conditions sig ++ (term_conditions sig ++ part_conditions file))

-- the conditions of the parts of a file
abbrev pub premises_of : List PartEntry → List Condition
premises_of [] = []
premises_of (entry ∷ entries) = and_premise entry.place (Some entry.part) (premises_of entries)

abbrev pub conjectures_of : List PartEntry → List Condition
conjectures_of [] = []
conjectures_of (entry ∷ entries) = and_conjecture entry.place (Some entry.part) (conjectures_of entries)

-- a part's condition
abbrev pub condition_of : ℕ → Part → Condition
condition_of place (IsPremise scope) = Premise place
condition_of place (IsConjecture scope) = Conjecture place

-- whether a numbered formula is as its part asks
abbrev pub node_meets : KripkeTables → Part → Node → Bool
node_meets view (IsPremise scope) n = node_holds_in view scope n
node_meets view (IsConjecture scope) n = not (node_holds_in view scope n)
