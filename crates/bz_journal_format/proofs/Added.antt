-- The bytes of the undone session: its held line first, then all at once.
use Rattle.bz_journal_format.proofs.Words.{[], ◌++◌, ◌∙◌, ◌∷◌, ◌≡◌, ap, Class as c, codes, compress, digest_bytes, digest_text, digits, encode_with, end_line, first_words, flat_map, hash_after, Kind as k, List, node_line, note_line, One, Part, part_text, record_text, refl, rounds, schedule, sha256, Two, Version, version_line, ℕ}
use Rattle.bz_grammar.specs.declared.tree.Part.TheVariants as p
use Rattle.bz_journal_format.specs.Worked.{added_argument, added_call, added_line, added_note, added_statement, leaf_part, rule_text, undone_bytes, undone_record}
use Rattle.bz_journal_format.proofs.Held.{text_Node}

argument_bytes : List ℕ
argument_bytes = codes "node 22 3\nleaf 1 0 4\nname\nleaf 5 1 1\n =\nleaf 4 1 3\n \"a\"\n"

argument_is : part_text (p.Node added_argument) ≡ argument_bytes
unfolding digits argument_bytes
argument_is = text_Node added_argument

abbrev added_bytes : List ℕ
added_bytes = codes "node 2 2\nnode 3 1\nnode 21 4\nleaf 1 0 10\ncc_library\nleaf 5 0 1\n(\nnode 22 3\nleaf 1 0 4\nname\nleaf 5 1 1\n =\nleaf 4 1 3\n \"a\"\nleaf 5 0 1\n)\nleaf 6 0 1\n\n\n"

added : part_text (p.Node added_line) ≡ added_bytes
unfolding digits argument_bytes
added =
    text_Node added_line
    ∙ ap (λ t. node_line k.Line 2 ++ (t ++ (part_text (leaf_part c.Newline [] (codes "\n")) ++ []))) (text_Node added_statement ∙ ap (λ t. node_line k.Bare 1 ++ (t ++ [])) (text_Node added_call
    ∙ ap (λ t. node_line k.Call 4 ++ (part_text (leaf_part c.Name [] (codes "cc_library")) ++ (part_text (leaf_part c.Mark [] (codes "(")) ++ (t ++ (part_text (leaf_part c.Mark [] (codes ")")) ++ []))))) argument_is))

abbrev lines_with : Version → List ℕ → List ℕ
lines_with v t = (version_line v ++ codes "package 1 -\ntext 0\n\n") ++ codes "steps 1 now 0 before 1\n" ++ flat_map digest_text (sha256 [] ∷ sha256 rule_text ∷ []) ++ (((codes "step 1\n" ++ note_line v (added_note v) ++ ((codes "edit 0 0 0 1\n" ++ (t ++ [])) ++ []))) ++ [])

abbrev whole_with : Version → List ℕ → List ℕ
whole_with v t = lines_with v t ++ end_line (lines_with v t)

held_one : (x : Part) → record_text One (undone_record One x) ≡ whole_with One (part_text x)
unfolding digits
held_one x = refl

held_two : (x : Part) → record_text Two (undone_record Two x) ≡ whole_with Two (part_text x)
unfolding digits
held_two x = refl

computed_one : whole_with One added_bytes ≡ undone_bytes One
unfolding digits encode_with first_words schedule rounds compress hash_after digest_bytes sha256
computed_one = refl

computed_two : whole_with Two added_bytes ≡ undone_bytes Two
unfolding digits encode_with first_words schedule rounds compress hash_after digest_bytes sha256
computed_two = refl

pub undone_one : record_text One (undone_record One (p.Node added_line)) ≡ undone_bytes One
undone_one = held_one (p.Node added_line) ∙ ap (whole_with One) added ∙ computed_one

pub undone_two : record_text Two (undone_record Two (p.Node added_line)) ≡ undone_bytes Two
undone_two = held_two (p.Node added_line) ∙ ap (whole_with Two) added ∙ computed_two
