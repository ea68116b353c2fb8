-- What is seen of a node, by the list of its parts.
use Rattle.bz_hosts.proofs.Words.{[], ◌++◌, ◌+◌, ◌∙◌, ◌∷◌, ◌≡◌, add-one, ap, Bool, Bytes, drop, drop-map, Expr, false, first_seen_gap, Form, form_of_frame, Frame, frame, has_brackets, has_newline, HostComments, is_split, items_of_row, Kind, lead, List, loose_of, map, no_comments, Node, Node', Part, plain, refl, row_of, seen, seen_node, seen_row, Seq, seq_in, sequence, suc, sym, take, true, true≢false, with_comments, zero, ℕ}
use Rattle.bz_grammar.specs.declared.tree.Part.TheVariants as p
use Rattle.bz_value.specs.declared.value.Expr.TheVariants as e
use Rattle.bz_hosts.proofs.SeenParts.{seen_rows}

pub seen_parts : (n : Node) → seen_row (row_of n).1 ≡ map seen n.parts
seen_parts n = seen_rows _ (row_of n).1 ∙ ap (map seen) (items_of_row n)

pub seen_Node : (n : Node) → seen (p.Node n) ≡ seen_node (frame n.kind) n.kind (map seen n.parts)
seen_Node n = ap (seen_node (frame n.kind) n.kind) (seen_parts n)

-- comments and break make no other expression
pub seen_comments : (x : Part) (b : Bool) (cs : HostComments) → with_comments ((seen x).make no_comments b) cs ≡ (seen x).make cs b
seen_comments (p.Leaf l) b cs = refl
seen_comments (Node' kind _ parts) b cs = refl

-- ---- the same of a part that is a node

pub gap_of_node : (x : Part) (n : Node) → x ≡ p.Node n → first_seen_gap (map seen n.parts) ≡ (seen x).gap
gap_of_node x n i = sym (ap (λ y. (seen y).gap) i ∙ ap (λ s. s.gap) (seen_Node n))

pub node_pushed : (x : Part) (n : Node) (b : Bool) (old new : List Expr) → x ≡ p.Node n → new ≡ old ++ e.Form (form_of_frame (frame n.kind) n.kind (map seen n.parts) no_comments) ∷ [] → new ≡ old ++ (seen x).make no_comments b ∷ []
node_pushed x n b old new i h = h ∙ ap (λ t. old ++ t ∷ []) (sym (ap (λ y. (seen y).make no_comments b) i ∙ ap (λ s. s.make no_comments b) (seen_Node n)))

pub node_loose : (x : Part) (n : Node) (old new : List Bytes) → x ≡ p.Node n → new ≡ old ++ loose_of (frame n.kind) n.kind (map seen n.parts) → new ≡ old ++ (seen x).loose
node_loose x n old new i h = h ∙ ap (λ ls. old ++ ls) (sym (ap (λ y. (seen y).loose) i ∙ ap (λ s. s.loose) (seen_Node n)))

-- ---- a sequence

abbrev made : Kind → List Expr → Seq → HostComments → Form
made kind parts seq comments = record { kind = kind; parts = parts; seq = seq; open_break = false; comments = comments }

pub sequence_made : (f : Frame) (kind : Kind) (ps qs : List Part) (n : ℕ) (es : List Expr) (q : Seq) (cs : HostComments) → has_brackets f ≡ true → qs ≡ ps → n ≡ lead kind →
    es ≡ map plain (take n (map seen qs)) → q ≡ seq_in (map seen (drop (n + 1) qs)) → cs ≡ no_comments → made kind es q cs ≡ form_of_frame f kind (map seen ps) no_comments
sequence_made (sequence opener closer) kind ps qs n es q cs h j i e g k =
    let head : es ≡ map plain (take (lead kind) (map seen ps)) = e ∙ (ap (λ m. map plain (take m (map seen qs))) i ∙ ap (λ rs. map plain (take (lead kind) (map seen rs))) j) in
    let body : q ≡ seq_in (drop (suc (lead kind)) (map seen ps)) =
    g ∙ (ap (λ rs. seq_in (map seen (drop (n + 1) rs))) j ∙ (ap (λ m. seq_in (map seen (drop m ps))) (add-one n ∙ ap suc i) ∙ ap seq_in (sym (drop-map seen (suc (lead kind)) ps)))) in
    ap (λ t. made kind t q cs) head ∙ (ap (λ t. made kind (map plain (take (lead kind) (map seen ps))) t cs) body ∙ ap (λ t. made kind (map plain (take (lead kind) (map seen ps))) (seq_in (drop (suc (lead kind)) (map seen ps))) t) k)
sequence_made _ kind ps qs n es q cs h j i e g k = absurd (true≢false (sym h))

-- ---- parts of a row

-- no newline before the part with this index
pub no_split_at : (ps : List Part) (at : ℕ) → has_newline (first_seen_gap (map seen (drop at ps))) ≡ false → is_split (map seen (drop (suc at) ps)) ≡ is_split (map seen (drop at ps))
no_split_at [] zero h = refl
no_split_at [] (suc at) h = refl
no_split_at (x ∷ ps) zero h = sym (rw h refl)
no_split_at (x ∷ ps) (suc at) h = no_split_at ps at h
