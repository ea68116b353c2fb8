-- Steps of the loops over the statements of a line.
use Rattle.bz_hosts.proofs.Words.{[], ◌++◌, ◌+◌, ◌-◌, ◌<◌, ◌∙◌, ◌∷◌, ◌≡◌, ◌≤◌, ap, append-nil, append_assoc, arith, Bytes, drop, Expr, false, get_or, Item, Item as i, last_gap, length, length-drop, length-map, line_gap, List, map, Part, plain, refl, Seen, seen, statement, statements_in, suc, suffix_in, sym, zero, ℕ}
use Rattle.bz_hosts.proofs.{HostSteps.host_comments, RowSteps.seen_here, RowSteps.two_further}

-- ---- the suffix of a statement

pub suffix_none : (ps : List Part) (at : ℕ) → 2 < length ps - at → [] ≡ line_gap (map seen (drop at ps))
suffix_none [] zero l = absurd (omega arith)
suffix_none [] (suc at) l = absurd (omega arith)
suffix_none (x ∷ []) zero l = absurd (omega arith)
suffix_none (x ∷ y ∷ []) zero l = absurd (omega arith)
suffix_none (x ∷ y ∷ z ∷ ps) zero l = refl
suffix_none (x ∷ ps) (suc at) l = suffix_none ps at (omega arith)

pub suffix_last : (ps : List Part) (at : ℕ) → at < length ps → length ps - at ≤ 2 → last_gap (map seen ps) ≡ line_gap (map seen (drop at ps))
suffix_last [] at l k = absurd (omega arith)
suffix_last (x ∷ []) zero l k = refl
suffix_last (x ∷ []) (suc at) l k = absurd (omega arith)
suffix_last (x ∷ y ∷ []) zero l k = refl
suffix_last (x ∷ y ∷ z ∷ ps) zero l k = absurd (omega arith)
suffix_last (x ∷ y ∷ ps) (suc at) l k = suffix_last (y ∷ ps) at (omega arith) (omega arith)

-- ---- statements

statement_step : (above : List Bytes) (s : Seen) (ss : List Seen) → 0 < length ss → statements_in above (s ∷ ss) ≡ statement above (suffix_in (line_gap ss)) s ∷ statements_in [] (drop 1 ss)
statement_step above s [] l = absurd (omega arith)
statement_step above s (mark ∷ []) l = refl
statement_step above s (mark ∷ t ∷ []) l = refl
statement_step above s (mark ∷ t ∷ u ∷ ss) l = refl

no_statement : (above : List Bytes) (ss : List Seen) → length ss ≤ 1 → statements_in above ss ≡ []
no_statement above [] l = refl
no_statement above (s ∷ []) l = refl
no_statement above (s ∷ t ∷ ss) l = absurd (omega arith)

-- a statement and the mark after it, of parts of which those after the statement are as they were
pub statement_more : (ps qs rest : List Part) (at : ℕ) (y : Part) (above before next : List Bytes) (pushed : List Expr) (items new : List Item) → at + 1 < length ps → y ≡ get_or ps at y → drop (at + 1) qs ≡ drop (at + 1) ps → rest ≡ drop (at + 2) ps →
    before ≡ above ++ (seen y).loose → pushed ≡ plain (seen y) ∷ [] → next ≡ [] →
    ((x : Part) → pushed ≡ plain (seen x) ∷ [] → new ≡ items ++ i.Stmt ((seen x).make (host_comments before (suffix_in (line_gap (map seen (drop (at + 1) qs))))) false) ∷ []) →
    new ++ statements_in next (map seen rest) ≡ items ++ statements_in above (map seen (drop at ps))
statement_more ps qs rest at y above before next pushed items new l here same r b k n made =
    let ss : List Seen = map seen (drop (at + 1) ps) in
    let some : 0 < length ss = omega (arith, length-map (drop (at + 1) ps) seen, length-drop (at + 1) ps) in
    let done : Item = statement above (suffix_in (line_gap ss)) (seen y) in
    let more : List Item = statements_in [] (drop 1 ss) in
    let held : new ≡ items ++ done ∷ [] =
    made y k ∙ (ap (λ t. items ++ i.Stmt ((seen y).make (host_comments t (suffix_in (line_gap (map seen (drop (at + 1) qs))))) false) ∷ []) b ∙
    ap (λ rs. items ++ statement above (suffix_in (line_gap (map seen rs))) (seen y) ∷ []) same) in
    let step : statements_in above (map seen (drop at ps)) ≡ done ∷ more = ap (statements_in above) (seen_here ps at y (omega arith) here) ∙ statement_step above (seen y) ss some in
    let left : statements_in next (map seen rest) ≡ more = ap (statements_in next) (two_further ps rest at r) ∙ ap (λ t. statements_in t (drop 1 ss)) n in
    ap (λ t. new ++ t) left ∙ (ap (λ t. t ++ more) held ∙ (append_assoc items (done ∷ []) more ∙ ap (λ t. items ++ t) (sym step)))

pub statements_done : (ps : List Part) (at : ℕ) (above : List Bytes) (items all : List Item) → length ps ≤ at + 1 → items ++ statements_in above (map seen (drop at ps)) ≡ all → items ≡ all
statements_done ps at above items all l j =
    let none : statements_in above (map seen (drop at ps)) ≡ [] = no_statement above (map seen (drop at ps)) (omega (arith, length-map (drop at ps) seen, length-drop at ps)) in
    sym (append-nil items) ∙ (ap (λ t. items ++ t) (sym none) ∙ j)
