-- The names of a file, of its journal, and those under which they are written first, are four.
use Rattle.bz_resume.proofs.Words.{◌+◌, ◌≡◌, ◌≢◌, ap, arith, codes, inl, inr, IsNew, journal_name, length, length-append, new_name, sym}
use Rattle.bz_files.specs.Folder.{Text}

new_length : (name : Text) → length (new_name name) ≡ length name + 6
new_length name = length-append name (codes ".bznew")

journal_length : (name : Text) → length (journal_name name) ≡ length name + 8
journal_length name = length-append name (codes ".journal")

pub file_journal : (file : Text) → file ≢ journal_name file
file_journal file same = let e : length file ≡ length (journal_name file) = ap length same in omega (arith, e, journal_length file)

pub journal_file : (file : Text) → journal_name file ≢ file
journal_file file same = file_journal file (sym same)

pub file_new : (file : Text) → file ≢ new_name file
file_new file same = let e : length file ≡ length (new_name file) = ap length same in omega (arith, e, new_length file)

pub file_new_journal : (file : Text) → file ≢ new_name (journal_name file)
file_new_journal file same = let e : length file ≡ length (new_name (journal_name file)) = ap length same in
    omega (arith, e, new_length (journal_name file), journal_length file)

pub journal_new : (file : Text) → journal_name file ≢ new_name file
journal_new file same = let e : length (journal_name file) ≡ length (new_name file) = ap length same in
    omega (arith, e, new_length file, journal_length file)

pub file_is_old : (file : Text) → IsNew (journal_name file) file file → ⊥
file_is_old file = elim [ inl e ↦ file_new_journal file e | inr e ↦ file_new file e ]

pub journal_is_old : (file : Text) → IsNew (journal_name file) file (journal_name file) → ⊥
journal_is_old file = elim [ inl e ↦ file_new (journal_name file) e | inr e ↦ journal_new file e ]
