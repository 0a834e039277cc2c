-- The names of a printed problem are printable texts, and its variables are variables of TPTP.
use Rattle.std.proofs.Common.{◌≡◌, ℕ, zero, suc, ◌+◌, ◌<◌, Bool, true, false, cond, ◌&&◌, List, [], ◌∷◌, ◌++◌, map, refl, arith}
use Rattle.std.specs.Prelude.{codes, nat_lt}
use Rattle.std.specs.List.{list_all}
use Rattle.std.specs.Int.Digits.{digits_of, AllBelowBase}
use Rattle.std.proofs.lemmas.Int.Digits.{all_below_base_digits_of}
use Rattle.std.proofs.lemmas.Bool.{and_parts, and_from}
use Rattle.std.proofs.lemmas.Bool.Decides.{nat_tests}
use Rattle.nxf_base.specs.Bytes.{is_upper, is_name_byte}
use Rattle.nxf_base.specs.Bytes.{is_printable_byte, is_printable_text, is_variable_text}
use Rattle.nxf_tree.specs.declared.tree.SortName.{SortName}
use Rattle.nxf_tree.specs.declared.tree.SortName.TheVariants as sort
use Rattle.nxf_tree.specs.declared.tree.IndexName.{IndexName}
use Rattle.nxf_tree.specs.declared.tree.IndexName.TheVariants as index
use Rattle.nxf_tree.specs.Names.{begins, user_name, user_variable, user_sort, numeral, world_variable, element_variable, axiom_name, relation_name, existence_name, world_name, actual_name}
use Rattle.nxf_tree.specs.WellFormed.{is_name, is_sort_name, is_index_name}
use Rattle.nxf_tree.specs.RegularFormulas.{is_regular_sort, is_regular_index}

all_printable : (a : List ℕ) → is_printable_text a ≡ true → list_all is_printable_byte a ≡ true
all_printable [] h = refl
all_printable (b ∷ bs) h = h

-- ---- users' names

name_by : (x : List ℕ) (t : Bool) → is_printable_text x ≡ true → is_printable_text (cond t (codes "mk_u_" ++ x) x) ≡ true
name_by x true h = all_printable x h
name_by x false h = h

pub printable_user_name : (x : List ℕ) → is_printable_text x ≡ true → is_printable_text (user_name x) ≡ true
unfolding user_name
printable_user_name x h = name_by x (begins (codes "mk_") x) h

pub regular_user_sort : (s : SortName) → is_regular_sort s ≡ true → is_regular_sort (user_sort s) ≡ true
regular_user_sort sort.Individual h = refl
regular_user_sort (sort.User s) h = printable_user_name s h

upper_name_byte : (b : ℕ) → is_upper b ≡ true → is_name_byte b ≡ true
upper_name_byte b h = grind (arith, nat_tests)

variable_bytes : (x : List ℕ) → is_variable_text x ≡ true → list_all is_name_byte x ≡ true
variable_bytes [] h = refl
variable_bytes (b ∷ bs) h =
    let t = and_parts (is_upper b) (list_all is_name_byte bs) h in
    and_from (is_name_byte b) (list_all is_name_byte bs) (upper_name_byte b t.0) t.1

variable_by : (x : List ℕ) (t : Bool) → is_variable_text x ≡ true → is_variable_text (cond t (codes "W_" ++ x) x) ≡ true
variable_by x true h = variable_bytes x h
variable_by x false h = h

pub user_variable_is : (x : List ℕ) → is_variable_text x ≡ true → is_variable_text (user_variable x) ≡ true
unfolding user_variable
user_variable_is x h = variable_by x (begins (codes "W_") x) h

-- ---- numerals

digit_name_byte : (d : ℕ) → d < 10 → is_name_byte (48 + d) ≡ true
digit_name_byte d h = grind (arith, nat_tests)

digit_printable : (d : ℕ) → d < 10 → is_printable_byte (48 + d) ≡ true
digit_printable d h = grind (arith, nat_tests)

digits_pass : (test : ℕ → Bool) → ((d : ℕ) → d < 10 → test (48 + d) ≡ true) → (ds : List ℕ) → AllBelowBase 10 ds → list_all test (map (λ digit. 48 + digit) ds) ≡ true
digits_pass test one [] h = refl
digits_pass test one (d ∷ ds) h = and_from (test (48 + d)) (list_all test (map (λ digit. 48 + digit) ds)) (one d h.0) (digits_pass test one ds h.1)

numeral_passes : (test : ℕ → Bool) → ((d : ℕ) → d < 10 → test (48 + d) ≡ true) → (n : ℕ) → list_all test (numeral n) ≡ true
numeral_passes test one zero = and_from (test 48) true (one 0 (omega arith)) refl
numeral_passes test one (suc n) = digits_pass test one (digits_of 10 (suc n)) (all_below_base_digits_of 10 (suc n) (omega arith))

pub world_variable_is : (d : ℕ) → is_variable_text (world_variable d) ≡ true
unfolding world_variable
world_variable_is d = numeral_passes is_name_byte digit_name_byte d

pub element_variable_is : (k : ℕ) → is_variable_text (element_variable k) ≡ true
unfolding element_variable
element_variable_is k = numeral_passes is_name_byte digit_name_byte k

pub printable_axiom_name : (n : ℕ) → is_printable_text (axiom_name n) ≡ true
printable_axiom_name n = numeral_passes is_printable_byte digit_printable n

-- ---- the printed problem's own names

pub printable_world : is_printable_text world_name ≡ true
unfolding world_name
printable_world = refl

pub printable_actual : is_printable_text actual_name ≡ true
unfolding actual_name
printable_actual = refl

pub printable_relation : (i : IndexName) → is_regular_index i ≡ true → is_printable_text (relation_name i) ≡ true
unfolding relation_name
printable_relation index.Plain h = refl
printable_relation (index.Named a) h = all_printable a h

pub printable_existence : (s : SortName) → is_regular_sort s ≡ true → is_printable_text (existence_name s) ≡ true
unfolding existence_name
printable_existence sort.Individual h = refl
printable_existence (sort.User s) h = all_printable s h

-- ---- the names of a well-formed signature

same_byte : (b : ℕ) → (nat_lt 31 b && nat_lt b 127) ≡ true → is_printable_byte b ≡ true
same_byte b h = grind (arith, nat_tests)

same_bytes : (bs : List ℕ) → list_all (λ c. nat_lt 31 c && nat_lt c 127) bs ≡ true → list_all is_printable_byte bs ≡ true
same_bytes [] h = refl
same_bytes (b ∷ bs) h =
    let t = and_parts (nat_lt 31 b && nat_lt b 127) (list_all (λ c. nat_lt 31 c && nat_lt c 127) bs) h in
    and_from (is_printable_byte b) (list_all is_printable_byte bs) (same_byte b t.0) (same_bytes bs t.1)

pub printable_name : (a : List ℕ) → is_name a ≡ true → is_printable_text a ≡ true
printable_name [] h = absurd cc
printable_name (b ∷ bs) h = same_bytes (b ∷ bs) h

pub regular_sort_name : (s : SortName) → is_sort_name s ≡ true → is_regular_sort s ≡ true
regular_sort_name sort.Individual h = refl
regular_sort_name (sort.User s) h = printable_name s h

pub regular_index_name : (i : IndexName) → is_index_name i ≡ true → is_regular_index i ≡ true
regular_index_name index.Plain h = refl
regular_index_name (index.Named a) h = printable_name a h
