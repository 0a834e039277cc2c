-- Interpretations printed, byte by byte.
use Rattle.std.proofs.Common.{◌≡◌, [], ◌∷◌, ◌++◌, refl}
use Rattle.std.specs.Prelude.{codes, None, Some}
use denote.Hole.Carrier
use Rattle.nxf_tree.specs.declared.tree.Term.TheBlock.{hidden-the_row-Term-0, shape-the_row-Term-0}
use Rattle.nxf_tree.specs.declared.tree.Formula.TheBlock.{hidden-the_row-Formula-1, shape-the_row-Formula-1}
use Rattle.nxf_tree.specs.declared.tree.SortName.TheVariants.{Individual, User}
use Rattle.nxf_tree.specs.declared.tree.ClassicalSignature.{ClassicalSignature}
use Rattle.nxf_tree.specs.Names.{world_name, actual_name}
use Rattle.fin_struct.specs.StructureTables.{StructureTables}
use Rattle.interpretation_text_definitions.specs.ElementNames.{element_name}
use Rattle.interpretation_text_definitions.specs.InterpretationText.{interpretation_text}

abbrev two_worlds : ClassicalSignature
two_worlds = record {
  sorts = User world_name ∷ [];
  tables = record { name = codes "mk_acc"; args = 0 ∷ 0 ∷ []; gives = None } ∷ record { name = codes "p"; args = 0 ∷ []; gives = None } ∷ [];
}

abbrev second_alone : StructureTables
second_alone = record {
  actual = 0;
  sizes = 2 ∷ [];
  tables = record { sizes = 2 ∷ 2 ∷ []; values = None; cells = 0 ∷ 1 ∷ 0 ∷ 0 ∷ [] } ∷ record { sizes = 2 ∷ []; values = None; cells = 0 ∷ 1 ∷ [] } ∷ [];
}

second_text : interpretation_text two_worlds second_alone ≡ (
    (codes "tff(mk_world,type,mk_world: $tType)." ++ 10 ∷ [])
    ++ (codes "tff(mk_w_0,type,mk_w_0: mk_world)." ++ 10 ∷ [])
    ++ (codes "tff(mk_w_1,type,mk_w_1: mk_world)." ++ 10 ∷ [])
    ++ (codes "tff(mk_domain,axiom,! [X: mk_world] : ( X = mk_w_0 | X = mk_w_1 ))." ++ 10 ∷ [])
    ++ (codes "tff(mk_distinct,axiom,$distinct(mk_w_0,mk_w_1))." ++ 10 ∷ [])
    ++ (codes "tff(mk_actual,type,mk_actual: mk_world)." ++ 10 ∷ [])
    ++ (codes "tff(mk_actual,axiom,mk_actual = mk_w_0)." ++ 10 ∷ [])
    ++ (codes "tff(mk_acc,type,mk_acc: ( mk_world * mk_world ) > $o)." ++ 10 ∷ [])
    ++ (codes "tff(mk_acc,axiom,~ mk_acc(mk_w_0,mk_w_0) & mk_acc(mk_w_0,mk_w_1) & ~ mk_acc(mk_w_1,mk_w_0) & ~ mk_acc(mk_w_1,mk_w_1))." ++ 10 ∷ [])
    ++ (codes "tff(p,type,p: mk_world > $o)." ++ 10 ∷ [])
    ++ (codes "tff(p,axiom,~ p(mk_w_0) & p(mk_w_1))." ++ 10 ∷ []))
unfolding element_name world_name actual_name hidden-the_row-Term-0 shape-the_row-Term-0 hidden-the_row-Formula-1 shape-the_row-Formula-1 denote.Hole.Carrier.hidden
second_text = refl

-- with `$i`, a user's sort that isn't a word, a function and a constant
abbrev with_function : ClassicalSignature
with_function = record {
  sorts = User world_name ∷ Individual ∷ User (codes "it's") ∷ [];
  tables = record { name = codes "f"; args = 1 ∷ 2 ∷ []; gives = Some 1 } ∷ record { name = codes "c"; args = []; gives = Some 2 } ∷ [];
}

abbrev with_values : StructureTables
with_values = record {
  actual = 0;
  sizes = 1 ∷ 2 ∷ 1 ∷ [];
  tables = record { sizes = 2 ∷ 1 ∷ []; values = Some 2; cells = 1 ∷ 0 ∷ [] } ∷ record { sizes = []; values = Some 1; cells = 0 ∷ [] } ∷ [];
}

values_text : interpretation_text with_function with_values ≡ (
    (codes "tff(mk_world,type,mk_world: $tType)." ++ 10 ∷ [])
    ++ (codes "tff(mk_w_0,type,mk_w_0: mk_world)." ++ 10 ∷ [])
    ++ (codes "tff(mk_domain,axiom,! [X: mk_world] : X = mk_w_0)." ++ 10 ∷ [])
    ++ (codes "tff(mk_i_0,type,mk_i_0: $i)." ++ 10 ∷ [])
    ++ (codes "tff(mk_i_1,type,mk_i_1: $i)." ++ 10 ∷ [])
    ++ (codes "tff(mk_domain,axiom,! [X: $i] : ( X = mk_i_0 | X = mk_i_1 ))." ++ 10 ∷ [])
    ++ (codes "tff(mk_distinct,axiom,$distinct(mk_i_0,mk_i_1))." ++ 10 ∷ [])
    ++ (codes "tff('it\\'s',type,'it\\'s': $tType)." ++ 10 ∷ [])
    ++ (codes "tff('mk_e_it\\'s_0',type,'mk_e_it\\'s_0': 'it\\'s')." ++ 10 ∷ [])
    ++ (codes "tff(mk_domain,axiom,! [X: 'it\\'s'] : X = 'mk_e_it\\'s_0')." ++ 10 ∷ [])
    ++ (codes "tff(mk_actual,type,mk_actual: mk_world)." ++ 10 ∷ [])
    ++ (codes "tff(mk_actual,axiom,mk_actual = mk_w_0)." ++ 10 ∷ [])
    ++ (codes "tff(f,type,f: ( $i * 'it\\'s' ) > $i)." ++ 10 ∷ [])
    ++ (codes "tff(f,axiom,f(mk_i_0,'mk_e_it\\'s_0') = mk_i_1 & f(mk_i_1,'mk_e_it\\'s_0') = mk_i_0)." ++ 10 ∷ [])
    ++ (codes "tff(c,type,c: 'it\\'s')." ++ 10 ∷ [])
    ++ (codes "tff(c,axiom,c = 'mk_e_it\\'s_0')." ++ 10 ∷ []))
unfolding element_name world_name actual_name hidden-the_row-Term-0 shape-the_row-Term-0 hidden-the_row-Formula-1 shape-the_row-Formula-1 denote.Hole.Carrier.hidden
values_text = refl
