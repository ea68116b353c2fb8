-- Commands that print no lines and have no target by its line depend on no lines.
use Rattle.bz_command.proofs.Words.{[], ◌++◌, ◌∙◌, ◌∷◌, ◌≡◌, ap, ap₂, before_rest, Bool, Bytes, CommentOperation as wc, decimal, Err, false, Field, Field as f, if◌then◌else◌, is_by_line, Item, item_line, kept, lacks_rules, line_feed, lines_after_item, LinesMatter, List, list_any, map, may_mean_none, meant, None, NoTarget, Ok, on_rules, Operation, Operation as w, Option, option_map, option_map_or, or_parts, printed_field, printed_one, printed_rule, printed_rules, prints, prints_line, prints_lines, refl, Refusal, Result, Rule, rule_of, Some, spaced, Target, true≢false, Which, ℕ}
use Rattle.bz_label.specs.declared.target.Which.TheVariants.{Line}

meant_same : (which : Which) (lines others : List ℕ) (items : List Item) → is_by_line which ≡ false → meant which lines items ≡ meant which others items
meant_same (Line line) lines others items h = absurd (true≢false h)
meant_same _ lines others items h = refl

-- ---- what is printed of one rule, on any line

field_same : (current : Bytes) (line other : Option Bytes) (item : Item) (rule : Rule) (field : Field) → prints_line field ≡ false → printed_field current line item rule field
    ≡ printed_field current other item rule field
field_same current line other item rule f.StartLine h = absurd (true≢false h)
field_same current line other item rule _ h = refl

fields_same : (current : Bytes) (line other : Option Bytes) (item : Item) (rule : Rule) (fields : List Field) → list_any prints_line fields ≡ false
    → map (printed_field current line item rule) fields ≡ map (printed_field current other item rule) fields
fields_same current line other item rule [] h = refl
fields_same current line other item rule (field ∷ fields) h =
    let quiet = or_parts (prints_line field) (list_any prints_line fields) h in
    ap₂ ◌∷◌ (field_same current line other item rule field quiet.0) (fields_same current line other item rule fields quiet.1)

found_same : (current : Bytes) (line other : Option Bytes) (item : Item) (found : Option Rule) (fields : List Field) → list_any prints_line fields ≡ false
    → option_map_or (λ rule. printed_rule current line item rule fields) found [] ≡ option_map_or (λ rule. printed_rule current other item rule fields) found []
found_same current line other item None fields h = refl
found_same current line other item (Some rule) fields h = ap (λ texts. spaced texts ++ line_feed ∷ []) (fields_same current line other item rule fields h)

one_same : (operation : Operation) (current : Bytes) (line other : Option Bytes) (item : Item) → prints_lines operation ≡ false
    → printed_one operation current line item ≡ printed_one operation current other item
one_same (w.Print fields) current line other item h = ap (λ text. Ok text) (found_same current line other item (rule_of item) fields h)
one_same (w.Comment (wc.Print host)) current line other item h = refl
one_same _ current line other item h = refl

-- ---- and of all rules

rules_same : (operation : Operation) (current : Bytes) (lines others : List ℕ) (marks : List Bool) (items : List Item) → prints_lines operation ≡ false
    → printed_rules operation current lines marks items ≡ printed_rules operation current others marks items
rules_same operation current lines others [] items h = refl
rules_same operation current lines others (mark ∷ marks) [] h = refl
rules_same operation current lines others (mark ∷ marks) (item ∷ items) h =
    ap₂ before_rest
    (ap (λ (text : Result Bytes Refusal). if mark then text else Ok []) (one_same operation current (option_map decimal (item_line lines item)) (option_map decimal (item_line others item)) item h))
    (rules_same operation current (lines_after_item lines item) (lines_after_item others item) marks items h)

-- ---- the law

abbrev effect_by : Operation → Target → Bytes → List Item → List Bool → Result Bytes Refusal → Result (List Item) Refusal
effect_by command target current items marks texts =
    if lacks_rules command marks then (if may_mean_none target.which then Ok items else Err NoTarget)
    else (if prints command then kept items texts else on_rules command current marks items)

abbrev printed_by : Operation → List Bool → Result Bytes Refusal → Result Bytes Refusal
printed_by command marks texts = if lacks_rules command marks then Ok [] else (if prints command then texts else Ok [])

pub lines_matter : LinesMatter
lines_matter command target current lines others items h =
    let quiet = or_parts (prints_lines command) (is_by_line target.which) h in
    let marks : meant target.which lines items ≡ meant target.which others items = meant_same target.which lines others items quiet.1 in
    let texts : printed_rules command current lines (meant target.which lines items) items ≡ printed_rules command current others (meant target.which others items) items =
    rules_same command current lines others (meant target.which lines items) items quiet.0 ∙ ap (λ all. printed_rules command current others all items) marks in
    (ap₂ (effect_by command target current items) marks texts, ap₂ (printed_by command) marks texts)
