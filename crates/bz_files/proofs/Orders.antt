-- How the acts of calls follow one another.
use Rattle.bz_files.proofs.Words.{[], ◌++◌, ◌∙◌, ◌∷◌, ◌≡◌, Act, act_of, All, ap, append_assoc, arith, BreaksOff, Err, Failed, FileFault, fold-append, GaveUp, get_or_append_left, IsErrAnd, IsMadeFor, IsRegular, KeepsOrder, length-append, List, Ok, on_err_weaker, on_ok_weaker, Option, pair_acts, pos, ReadsRegular, refl, Result, rewrite_acts, Saw, subst, sym, Text, WasSeen, with_act, with_acts, ℕ}
use Rattle.std.proofs.lemmas.List.Elements.{All-append, All-cons, All-nil}
use Rattle.bz_files.specs.declared.stamp.FileStamp.{FileStamp}

abbrev pub Acts : Type 0
Acts = Option (List Act)

acts_on : (start : Acts) (xs ys : List Act) → with_acts (with_acts start xs) ys ≡ with_acts start (xs ++ ys)
acts_on start xs ys = sym (fold-append with_act start xs ys)

-- acts after others
pub joined : (a b c : Acts) (xs ys : List Act) → b ≡ with_acts a xs → c ≡ with_acts b ys → c ≡ with_acts a (xs ++ ys)
joined a b c xs ys one two = two ∙ ap (λ (acts : Acts). with_acts acts ys) one ∙ acts_on a xs ys

-- P of each act of a list that is written out
abbrev pub Every : (Act → Type 0) → List Act → Type 0
Every P [] = Unit {0}
Every P (act ∷ acts) = P act × Every P acts

pub all_of : (P : Act → Type 0) (acts : List Act) → Every P acts → All P acts
all_of P [] tt = All-nil P
all_of P (act ∷ acts) (is, every) = All-cons P act acts is (all_of P acts every)

-- ---- a file that was seen

pub first_seen : (file : Text) (held : List ℕ) (stamp : FileStamp) (a b : Acts) → b ≡ with_act a (Saw file held stamp) → WasSeen file held stamp b
first_seen file held stamp a b is = (a, [], All-nil (IsMadeFor stamp), is)

pub seen_since : (file : Text) (held : List ℕ) (stamp : FileStamp) (a b : Acts) (more : List Act) → WasSeen file held stamp a → Every (IsMadeFor stamp) more
    → b ≡ with_acts a more → WasSeen file held stamp b
seen_since file held stamp a b more (start, since, all, is) made next = (
  start,
  since ++ more,
  All-append (IsMadeFor stamp) since more all (all_of (IsMadeFor stamp) more made),
  joined (with_act start (Saw file held stamp)) a b since more is next,
)

-- ---- an order that is kept

gone : (acts : List Act) → All (λ act. act ≡ GaveUp) acts → All (λ act. act ≡ GaveUp) (acts ++ GaveUp ∷ [])
gone acts all = All-append (λ act. act ≡ GaveUp) acts (GaveUp ∷ []) all (All-cons (λ act. act ≡ GaveUp) GaveUp [] refl (All-nil (λ act. act ≡ GaveUp)))

-- a first act that failed, of an order that has more
pub fails : (order : List Act) (a b : Acts) → b ≡ with_act a Failed → BreaksOff order a b
fails order a b is = ([], order, [], refl, All-nil (λ act. act ≡ GaveUp), is)

-- one that broke off is so after more acts, before more that were to come, and when a new file was given up
pub broken_after : (xs ys : List Act) (a b c : Acts) → b ≡ with_acts a xs → BreaksOff ys b c → BreaksOff (xs ++ ys) a c
broken_after xs ys a b c one (front, rest, ended, is, all, done) = (
  xs ++ front,
  rest,
  ended,
  ap (λ (acts : List Act). xs ++ acts) is ∙ sym (append_assoc xs front rest),
  all,
  joined a b c xs (front ++ Failed ∷ ended) one done ∙ ap (with_acts a) (sym (append_assoc xs front (Failed ∷ ended))),
)

pub broken_before : (xs ys : List Act) (a b : Acts) → BreaksOff xs a b → BreaksOff (xs ++ ys) a b
broken_before xs ys a b (front, rest, ended, is, all, done) =
    (front, rest ++ ys, ended, ap (λ (acts : List Act). acts ++ ys) is ∙ append_assoc front rest ys, all, done)

pub broken_off : (order : List Act) (a b c : Acts) → BreaksOff order a b → c ≡ with_act b GaveUp → BreaksOff order a c
broken_off order a b c (front, rest, ended, is, all, done) last = (
  front,
  rest,
  ended ++ GaveUp ∷ [],
  is,
  gone ended all,
  joined a b c (front ++ Failed ∷ ended) (GaveUp ∷ []) done last ∙ ap (with_acts a) (append_assoc front (Failed ∷ ended) (GaveUp ∷ [])),
)

-- at an error
pub stops : {T E : Type 0} (Q : E → Type 0) (r : Result T E) (order : List Act) (a b : Acts) → IsErrAnd r Q → BreaksOff order a b → KeepsOrder order r a b
stops Q (Ok value) order a b is off = absurd is
stops Q (Err fault) order a b is off = record { whole = tt; front = off }

pub broken : {T E : Type 0} (fault : E) (order : List Act) (a b : Acts) → BreaksOff order a b → KeepsOrder {T = T} order (Err fault) a b
broken fault order a b off = record { whole = tt; front = off }

-- one act alone, and an order after acts that came
pub one_act : {T : Type 0} (r : Result T FileFault) (act : Act) (a b : Acts) → b ≡ with_act a (act_of r (λ _. act)) → KeepsOrder (act ∷ []) r a b
one_act (Ok value) act a b is = record { whole = is; front = tt }
one_act (Err fault) act a b is = broken fault (act ∷ []) a b (fails (act ∷ []) a b is)

pub order_after : {T E : Type 0} (r : Result T E) (xs ys : List Act) (a b c : Acts) → b ≡ with_acts a xs → KeepsOrder ys r b c → KeepsOrder (xs ++ ys) r a c
order_after r xs ys a b c one two = record {
  whole = on_ok_weaker r (joined a b c xs ys one) two.whole;
  front = on_err_weaker r (broken_after xs ys a b c one) two.front;
}

-- any stamp
pub no_stamp : FileStamp
no_stamp = record { device = 0; number = 0; size = 0; seconds = pos 0; nanoseconds = pos 0; rights = record { owner = 0; group = 0; bits = 0 } }

-- ---- what was read

pub none_read : (a : Acts) → ReadsRegular a a
none_read a = ([], All-nil IsRegular, refl)

pub reads_one : (a b : Acts) (act : Act) → IsRegular act → b ≡ with_act a act → ReadsRegular a b
reads_one a b act is next = (act ∷ [], all_of IsRegular (act ∷ []) (is, tt), next)

pub reads_on : (a b c : Acts) → ReadsRegular a b → ReadsRegular b c → ReadsRegular a c
reads_on a b c (xs, all, one) (ys, every, two) = (xs ++ ys, All-append IsRegular xs ys all every, joined a b c xs ys one two)

all_front : (P : Act → Type 0) (xs ys : List Act) → All P (xs ++ ys) → All P xs
all_front P xs ys all at none lt = subst P (get_or_append_left xs ys none at lt) (all at none (omega (arith, length-append xs ys, lt)))

broken_reads : (order : List Act) (a b : Acts) → All IsRegular order → BreaksOff order a b → ReadsRegular a b
broken_reads order a b all (front, rest, ended, is, given_up, done) = (
  front ++ Failed ∷ ended,
  All-append IsRegular front (Failed ∷ ended) (all_front IsRegular front rest (subst (All IsRegular) is all))
      (All-cons IsRegular Failed ended tt (λ at none lt. subst IsRegular (sym (given_up at none lt)) tt)),
  done,
)

pub order_reads : {T E : Type 0} (r : Result T E) (order : List Act) (a b : Acts) → Every IsRegular order → KeepsOrder order r a b → ReadsRegular a b
order_reads (Ok value) order a b every kept = (order, all_of IsRegular order every, kept.whole)
order_reads (Err fault) order a b every kept = broken_reads order a b (all_of IsRegular order every) kept.front

-- a rewrite reads nothing, nor does one of a pair
pub rewrite_reads : {T E : Type 0} (r : Result T E) (name held bytes : Text) (a b : Acts) → ((stamp : FileStamp) × KeepsOrder (rewrite_acts name held bytes stamp) r a b)
    → ReadsRegular a b
rewrite_reads r name held bytes a b (stamp, kept) = order_reads r (rewrite_acts name held bytes stamp) a b (tt, (tt, (tt, (tt, tt)))) kept

pub pair_reads : {T E : Type 0} (r : Result T E) (journal stored file held text : Text) (a b : Acts)
    → ((stamp : FileStamp) × KeepsOrder (pair_acts journal stored file held text stamp) r a b) → ReadsRegular a b
pair_reads r journal stored file held text a b (stamp, kept) =
    order_reads r (pair_acts journal stored file held text stamp) a b (tt, (tt, (tt, (tt, (tt, (tt, (tt, (tt, (tt, tt))))))))) kept
