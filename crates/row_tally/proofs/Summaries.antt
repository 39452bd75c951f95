-- The summary of words of which one has changed.
use Rattle.std.proofs.Common.{◌≡◌, ◌≢◌, ◌↔◌, ⊎_elim, ℕ, ◌<◌, ◌++◌, List, length, take, drop, slice_index, slice_index_or}
use Rattle.std.proofs.Common.{sym, ◌∙◌, subst, arith}
use Rattle.std.proofs.lemmas.Bool.{cases_eq}
use Rattle.std.proofs.lemmas.List.{take_at, get_or_read}
use Rattle.row_tally.specs.Bits.{bit_in, IsSummary}

-- what a vector holds once its slice was written
pub written : (n : ℕ) (new old : List ℕ) → length new ≡ n → take n (new ++ drop (length new) old) ≡ new
written n new old long = take_at new (drop (length new) old) n long

-- a word of it that is read
pub read_word : (n w read : ℕ) (new old : List ℕ) → length new ≡ n → w < length new →
    read ≡ slice_index_or (take n (new ++ drop (length new) old)) w read → read ≡ slice_index new w
read_word n w read new old long within is = get_or_read new w read within (rw (written n new old long) at is) 0

pub IsSummary-changed : (words summary changed marked : List ℕ) (v : ℕ) → IsSummary words summary → length changed ≡ length words →
    length marked ≡ length summary → (bit_in marked v ≡ 1) ↔ (0 < slice_index changed v) →
    ((w : ℕ) → w ≢ v → slice_index changed w ≡ slice_index words w) → ((w : ℕ) → w ≢ v → bit_in marked w ≡ bit_in summary w) →
    IsSummary changed marked
IsSummary-changed words summary changed marked v was long long_above there words_stay bits_stay = record {
  few = let few = was.few in omega arith;
  few_above = let few = was.few_above in omega arith;
  room = let room = was.room in omega arith;
  bits = λ w. ⊎_elim
      (λ e. subst (λ z. (bit_in marked z ≡ 1) ↔ (0 < slice_index changed z)) (sym e) there)
      (λ apart. (
        λ one. let stays = words_stay w apart in let positive = (was.bits w).0 (sym (bits_stay w apart) ∙ one) in omega arith,
        λ positive. bits_stay w apart ∙ (was.bits w).1 (let stays = words_stay w apart in omega arith),
      ))
      (cases_eq w v);
}
