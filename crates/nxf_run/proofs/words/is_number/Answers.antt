use Rattle.std.proofs.Common.{◌≡◌, arith, sym, ap, ◌∙◌, ◌+◌, ◌-◌, true, false, decimal}
use Rattle.std.specs.Prelude.{◌||◌}
use Rattle.std.specs.List.{list_any, range_with_len}
use Rattle.nxf_tree.specs.Names.{same_text}
use Rattle.nxf_run.proofs.WordLists.{is_numeral, numerals, next_numeral, no_numeral}
use Rattle.nxf_run.proofs.words.is_number.Goals as goal

pub loop-number-init : goal.loop-number-init
loop-number-init c = (numerals c.args.word.now, omega arith)

pub loop-number-preserved : goal.loop-number-preserved
loop-number-preserved c =
    let n = c.loop-number.number in
    let word = c.args.word.now in
    let other : same_text (decimal n) word ≡ false = rw (sym (c.as_bytes.ensures.value ∙ c.format.ensures.text)) (sym c.is_word.ensures ∙ c.if-is_word.false) in
    (c.loop-number.invariant.0 ∙ next_numeral word n c.loop-number-test.true ∙ ap (λ t. t || list_any (is_numeral word) (range_with_len (n + 1) (201 - (n + 1)))) other, omega (arith, c.loop-number-test.true))

pub returns-then-is_word : goal.returns-then-is_word
returns-then-is_word c =
    let n = c.loop-number.number in
    let word = c.args.word.now in
    let found : same_text (decimal n) word ≡ true = rw (sym (c.as_bytes.ensures.value ∙ c.format.ensures.text)) (sym c.is_word.ensures ∙ c.if-is_word.true) in
    sym (c.loop-number.invariant.0 ∙ next_numeral word n c.loop-number-test.true ∙ ap (λ t. t || list_any (is_numeral word) (range_with_len (n + 1) (201 - (n + 1)))) found)

pub returns : goal.returns
returns c = sym (c.loop-number.invariant.0 ∙ no_numeral c.args.word.now c.loop-number.number c.loop-number-test.false c.loop-number.invariant.1)
