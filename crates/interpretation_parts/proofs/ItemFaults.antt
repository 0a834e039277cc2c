-- The first fault of a file's statements is the first fault of its items.
use Rattle.std.proofs.Common.{◌≡◌, ℕ, suc, List, [], ◌∷◌, ◌++◌, Option, None, Some, refl, ap, ◌∙◌, sym}
use Rattle.std.specs.Option.{option_or, option_map}
use Rattle.std.proofs.lemmas.List.{append-nil, append_assoc}
use Rattle.nxf_tree.specs.declared.tree.Statement.{Statement}
use Rattle.nxf_tree.specs.Faults.{first_fault}
use Rattle.interpretation_definitions.specs.declared.fault.PartFault.{PartFault}
use Rattle.interpretation_definitions.specs.Parts.{Part, parts_of, all_parts}
use Rattle.interpretation_definitions.specs.Context.{Context}
use Rattle.interpretation_definitions.specs.Judging.{part_fault, statement_fault, fault_in}
use Rattle.interpretation_parts.specs.steps.Items.{numbered, numbered_parts, item_fault}
use Rattle.interpretation_parts.proofs.ItemLemmas.{flat_map-append}

step : (j k : ℕ) (o : Option PartFault) (more : Option (ℕ × PartFault)) (rest : Option (ℕ × PartFault))
    → option_or (option_map (λ fault. (k, fault)) o) (option_or (option_map (λ fault. (k, fault)) (option_map (λ (p : ℕ × PartFault). p.1) more)) rest)
    ≡ option_or (option_map (λ fault. (k, fault)) (option_map (λ (p : ℕ × PartFault). p.1) (option_or (option_map (λ fault. (j, fault)) o) more))) rest
step j k None more rest = refl
step j k (Some fault) more rest = refl

-- the items of one statement, and those after it
one_statement : (context : Context) (j k : ℕ) (ps before : List Part) (rest : List (ℕ × Part))
    → item_fault context before (numbered k ps ++ rest) ≡ option_or (option_map (λ fault. (k, fault)) (option_map (λ (p : ℕ × PartFault). p.1) (first_fault (part_fault context) j before ps))) (item_fault context (before ++ ps) rest)
one_statement context j k [] before rest = ap (λ b. item_fault context b rest) (sym (append-nil before))
one_statement context j k (p ∷ ps) before rest =
    ap (option_or (option_map (λ fault. (k, fault)) (part_fault context before p)))
    (one_statement context (suc j) k ps (before ++ p ∷ []) rest ∙ ap (λ b. option_or (option_map (λ fault. (k, fault)) (option_map (λ (p : ℕ × PartFault). p.1) (first_fault (part_fault context) (suc j) (before ++ p ∷ []) ps))) (item_fault context b rest)) (append_assoc before (p ∷ []) ps))
    ∙ step j k (part_fault context before p) (first_fault (part_fault context) (suc j) (before ++ p ∷ []) ps) (item_fault context (before ++ p ∷ ps) rest)

all_parts-last : (ss : List Statement) (s : Statement) → all_parts (ss ++ s ∷ []) ≡ all_parts ss ++ parts_of s
all_parts-last ss s = flat_map-append parts_of ss (s ∷ []) ∙ ap (λ ps. all_parts ss ++ ps) (append-nil (parts_of s))

from_statement : (context : Context) (k : ℕ) (ss before : List Statement) → first_fault (statement_fault context) k before ss ≡ item_fault context (all_parts before) (numbered_parts k ss)
from_statement context k [] before = refl
from_statement context k (s ∷ ss) before =
    ap (option_or (option_map (λ fault. (k, fault)) (statement_fault context before s)))
    (from_statement context (suc k) ss (before ++ s ∷ []) ∙ ap (λ ps. item_fault context ps (numbered_parts (suc k) ss)) (all_parts-last before s))
    ∙ sym (one_statement context 0 k (parts_of s) (all_parts before) (numbered_parts (suc k) ss))

pub fault_of_items : (context : Context) (ss : List Statement) → fault_in context ss ≡ item_fault context [] (numbered_parts 1 ss)
fault_of_items context ss = from_statement context 1 ss []
