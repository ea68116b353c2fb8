-- What the windows that are made say of the layout.
use Rattle.bz_layout.proofs.Words.{[], ◌+◌, ◌-◌, ◌<◌, ◌^◌, ◌∙◌, ◌≡◌, ◌≤◌, ℕ, ap, AreCounted, AreOver, AreTextsOf, AreThere, arith, Bool, Err, flat_map, gone_length, IfOk, IsLayoutOf, IsProper, IsProperBuild, IsPut, Item, laid_out, layout, length, limit, line_count_in, Lines, lines_from, List, MatchOption, min, Node, None, Ok, Option, Part, PartWindow, Result, Some, spell_node, spell_part, subst, suc, sym, text_count, TextWindow, Window, window_parts, with_windows, Writer}
use Rattle.bz_layout.proofs.{Reaching.size_put, Reaching.gone_most, Spelled.laid_out_spelled, Windows.length_lines}

pub parts_put : (tree : Node) (before items : List Item) (made : List TextWindow) (bytes done : ℕ) → IsLayoutOf before tree → IsPut tree.parts (lines_from [] items) made bytes done →
    (new : List PartWindow) × AreTextsOf made new × AreThere new tree.parts × (with_windows new tree ≡ laid_out items)
parts_put tree before items made bytes done l p =
    let kind : tree.kind ≡ (laid_out before).kind = ap (λ n. n.kind) (sym l.laid_out) in
    (p.windows.new, p.windows.texts, p.windows.there, ap (λ ps. record { kind = tree.kind; parts = ps }) p.put ∙ ap (λ k. record { kind = k; parts = lines_from [] items }) kind)

-- what a match says of the one that is there, and of none
pub of_some : (P : Type 0) (Q : Writer → Type 0) (found : Option Writer) (w : Writer) → found ≡ Some w → MatchOption found P Q → Q w
of_some P Q found w is h = subst (λ o. MatchOption o P Q) is h

pub of_none : (P : Type 0) (Q : Writer → Type 0) (found : Option Writer) → found ≡ None → MatchOption found P Q → P
of_none P Q found is h = subst (λ o. MatchOption o P Q) is h

-- the length that is counted is that of all
pub whole_length : (tree : Node) (items : List Item) (parts : List Part) (ts : List TextWindow) (found : Option Writer) (w : Writer) (old gone less n : ℕ) → IsProper items → length (spell_node tree) ≤ limit →
    parts ≡ tree.parts → ts ≡ w.made → gone ≡ gone_length ts parts → less ≡ old - gone → n ≡ min (less + w.bytes) (2 ^ 64 - 1) → found ≡ Some w →
    MatchOption found (limit < length (layout items)) (λ v. IsPut tree.parts (lines_from [] items) v.made v.bytes v.done) → old ≡ length (spell_node tree) → n ≡ length (layout items)
whole_length tree items parts ts found w old gone less n h short same made lost left sum there match is =
    let p : IsPut tree.parts (lines_from [] items) w.made w.bytes w.done = of_some _ _ found w there match in
    let all : length (flat_map spell_part (window_parts p.windows.new tree.parts)) + gone_length w.made tree.parts ≡ length (spell_node tree) + text_count w.made = size_put w.made p.windows.new tree.parts p.windows.texts in
    let new : length (flat_map spell_part (window_parts p.windows.new tree.parts)) ≡ length (layout items) = ap (λ ps. length (flat_map spell_part ps)) p.put ∙ ap length (laid_out_spelled Lines.Counted items h) in
    let most : gone_length w.made tree.parts ≤ length (spell_node tree) = gone_most w.made tree.parts in
    let own : gone ≡ gone_length w.made tree.parts = lost ∙ (ap (λ us. gone_length us parts) made ∙ ap (gone_length w.made) same) in
    omega (arith, all, new, most, p.windows.count, p.windows.few, short, is, own, left, sum)

-- what is made of the items of the file and the parts of the tree, over windows that count lines
pub of_tree : {E : Type 0} {said : Bool} (tree : Node) (file items : List Item) (parts : List Part) (windows counted : List Window) (lines : ℕ) (made : Result (Option Writer) E) → items ≡ file → parts ≡ tree.parts → IsProperBuild file → lines ≡ length parts - 1 →
    ((before : List Item) → line_count_in before ≡ lines → AreOver windows before items → AreCounted said counted before items) →
    IfOk made (λ found. (before : List Item) → lines_from [] before ≡ parts → IsProperBuild before → IsProperBuild items → AreCounted said counted before items →
    MatchOption found (limit < length (layout items)) (λ w. IsPut parts (lines_from [] items) w.made w.bytes w.done)) →
    IfOk made (λ found. (before : List Item) → IsLayoutOf before tree → AreOver windows before file → MatchOption found (limit < length (layout file)) (λ w. IsPut tree.parts (lines_from [] file) w.made w.bytes w.done))
of_tree tree file items parts windows counted lines (Err error) e f proper is over h = tt
of_tree tree file items parts windows counted lines (Ok found) e f proper is over h = λ before l o.
    let own : lines_from [] before ≡ parts = ap (λ n. n.parts) l.laid_out ∙ sym f in
    let all : length parts ≡ suc (line_count_in before) = ap length (sym own) ∙ length_lines [] before in
    subst (λ ys. MatchOption found (limit < length (layout ys)) (λ w. IsPut tree.parts (lines_from [] ys) w.made w.bytes w.done)) e
    (subst (λ ps. MatchOption found (limit < length (layout items)) (λ w. IsPut ps (lines_from [] items) w.made w.bytes w.done)) f
    (h before own l.proper (subst IsProperBuild (sym e) proper) (over before (omega (arith, all, is)) (subst (AreOver windows before) (sym e) o))))

pub past_limit : (items : List Item) → IsProper items → limit < length (flat_map spell_part (lines_from [] items)) → limit < length (layout items)
past_limit items h long = subst (λ n. limit < n) (ap length (laid_out_spelled Lines.Counted items h)) long
