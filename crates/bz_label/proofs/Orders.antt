-- The order of keys is total, and ties only equal texts.
use Rattle.bz_label.proofs.Words.{◌≡◌, Bytes, Equal, Greater, group_of, IsTotalOrder, key_order, key_pieces, Less, lists_total, nat_cmp_total, nat_list_cmp_total, on_total, Ordering, ordering_then, then_total}
use Rattle.std.proofs.lemmas.Map.Lookups.{exact_bytes}

pub key_total : IsTotalOrder key_order
key_total = then_total (on_total group_of nat_cmp_total) (then_total (on_total key_pieces (lists_total nat_list_cmp_total)) nat_list_cmp_total)

-- a tie is a tie in the last order too
tie_last : (a b : Ordering) → ordering_then a b ≡ Equal → b ≡ Equal
tie_last Less b e = cc
tie_last Equal b e = e
tie_last Greater b e = cc

pub key_ties : (one other : Bytes) → key_order one other ≡ Equal → one ≡ other
key_ties one other e = exact_bytes one other (tie_last _ _ (tie_last _ _ e))
