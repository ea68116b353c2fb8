-- Acts that grow, and reads that failed among them.
use Rattle.bz_buildozer.proofs.Words.{[], ◌++◌, ◌∙◌, ◌∷◌, ◌≡◌, Act, ActsAreAmong, ActsGrow, ap, append_assoc, Bytes, Err, FileKind, IsUnreadInRun, joined, List, Option, Read, ReadsRegular, refl, RunActs, with_act, with_acts}
use Rattle.bz_files.specs.declared.files.FileFault.{FileFault}
use Rattle.bz_files.specs.declared.files.FileFault.TheVariants as q

abbrev pub Acts : Type 0
Acts = Option (List Act)

pub grows_none : (a : Acts) → ActsGrow a a
grows_none a = ([], refl)

pub grows_one : (a b : Acts) (act : Act) → b ≡ with_act a act → ActsGrow a b
grows_one a b act is = (act ∷ [], is)

pub grows_on : (a b c : Acts) → ActsGrow a b → ActsGrow b c → ActsGrow a c
grows_on a b c (xs, one) (ys, two) = (xs ++ ys, joined a b c xs ys one two)

pub grows_read : (a b : Acts) → ReadsRegular a b → ActsGrow a b
grows_read a b (done, all, is) = (done, is)

-- ---- parts of a run

pub among_all : (a b : Acts) → ActsAreAmong a b (record { began = a; ended = b })
among_all a b = record { front = grows_none a; rest = grows_none b }

pub among_first : (a b c : Acts) (acts : RunActs) → ActsGrow b c → ActsAreAmong a c acts → ActsAreAmong a b acts
among_first a b c acts more among = record { front = among.front; rest = grows_on b c acts.ended more among.rest }

pub among_second : (a b c : Acts) (acts : RunActs) → ActsGrow a b → ActsAreAmong a c acts → ActsAreAmong b c acts
among_second a b c acts first among = record { front = grows_on acts.began a b among.front first; rest = among.rest }

-- ---- a read that failed

pub unread_among : (a b : Acts) (acts : RunActs) (name : Bytes) (kind : FileKind) (fault : FileFault) → ActsAreAmong a b acts → fault ≡ q.Open
    → b ≡ with_act a (Read name kind (Err fault)) → IsUnreadInRun acts name
unread_among a b acts name kind fault among unread is =
    let (front, before) = among.front in
    let (rest, after) = among.rest in
    let act : Act = Read name kind (Err q.Open) in
    let done : b ≡ with_act a act = is ∙ ap (λ (it : FileFault). with_act a (Read name kind (Err it))) unread in (
      front,
      kind,
      rest,
      joined acts.began b acts.ended (front ++ act ∷ []) rest (joined acts.began a b front (act ∷ []) before done) after
          ∙ ap (with_acts acts.began) (append_assoc front (act ∷ []) rest),
    )
