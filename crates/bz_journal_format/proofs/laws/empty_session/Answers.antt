use Rattle.bz_journal_format.proofs.Words.{compress, digest_bytes, digits, encode_with, first_words, hash_after, refl, rounds, schedule, sha256}
use Rattle.bz_journal_format.proofs.laws.empty_session.Goals as goal

pub returns : goal.returns
unfolding digits encode_with first_words schedule rounds compress hash_after digest_bytes sha256
returns c = (refl, refl)
