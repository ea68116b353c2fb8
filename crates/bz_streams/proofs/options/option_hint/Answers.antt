use Rattle.bz_streams.proofs.Imported.{[], ◌∙◌, ◌≡◌, after_dashes, ap, Bor, Bytes, List, map, nearest, None, Option, option_hint, option_line, option_map, option_name, OptionTable, Some, strange_option, sym, ℕ}
use Rattle.std.specs.Option.{option_map_or}
use Rattle.bz_streams.proofs.options.option_hint.Goals as goal

hint_is : (options : OptionTable) (words : List Bytes) (word name : Bytes) (near : Option Bytes) → Some word ≡ strange_option options.names options.letters words
    → name ≡ option_name (after_dashes word) → near ≡ nearest name options.names → option_line options.program word near ≡ option_hint options words
hint_is options words word name near found named is =
    ap (option_line options.program word) (is ∙ ap (λ (it : Bytes). nearest it options.names) named)
    ∙ ap (λ (it : Option Bytes). option_map_or (λ one. option_line options.program one (nearest (option_name (after_dashes one)) options.names)) it []) found

pub returns-in-Some-2 : goal.returns-in-Some-2
returns-in-Some-2 g c = λ program.
    hint_is (record { program = program; names = map (λ s. s.now) c.args.names.now; letters = c.args.letters.now }) (map g.S.AsStr.text c.args.words.now)
    c.in-Some.word.now c.option_name.result.now (Some c.in-Some-2.name.now) c.in-Some.ensures (c.option_name.ensures ∙ ap option_name c.after_dashes.ensures)
    (ap (λ (it : Option (Bor (List ℕ))). option_map (λ s. s.now) it) (sym c.in-Some-2.is) ∙ c.in_ok-name.ensures)

pub returns-in-None : goal.returns-in-None
returns-in-None g c = λ program.
    hint_is (record { program = program; names = map (λ s. s.now) c.args.names.now; letters = c.args.letters.now }) (map g.S.AsStr.text c.args.words.now)
    c.in-Some.word.now c.option_name.result.now None c.in-Some.ensures (c.option_name.ensures ∙ ap option_name c.after_dashes.ensures)
    (ap (λ (it : Option (Bor (List ℕ))). option_map (λ s. s.now) it) (sym c.in-None.is) ∙ c.in_ok-name.ensures)
