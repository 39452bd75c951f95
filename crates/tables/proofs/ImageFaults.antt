-- Bytes are an image, or have a first fault.
use Rattle.std.proofs.Common.{◌≡◌, ℕ, ◌<◌, ◌≤◌, ◌⊎◌, inl, inr, ⊎_elim, List, length, take, sym, ◌∙◌, subst, arith}
use Rattle.std.specs.Prelude.{codes}
use Rattle.std.proofs.lemmas.Bool.{cases_lt}
use Rattle.names.specs.Bytes.{are_bytes}
use Rattle.tables.specs.Bounds.{InLimits, fault_number}
use Rattle.tables.specs.Images.{HasImageFault, HasVersion, IsFirstImageFault, IsImageOf, IsWhole, short_at, told_length, word_at}
use Rattle.tables.specs.declared.header.Version.{Version}
use Rattle.tables.specs.declared.header.Version.TheVariants.{First, Second}
use Rattle.tables.specs.inner.ReadTables.{table_at}
use Rattle.tables.specs.Tables.{Table}
use Rattle.tables.specs.declared.fault.ImageFault.{ImageFault}
use Rattle.tables.specs.declared.fault.ImageFault.TheVariants as fault
use Rattle.tables.specs.laws.Decisions.{decided_equal, decided_limits, decided_list}
use Rattle.tables.proofs.Wholes.{low_bytes, whole_is_image}

module _ (bytes : List ℕ) where
  -- nothing is wrong with what is tested before fault n
  record IsRightBefore (n : ℕ) : Type 0 where
    header : 1 < n → 20 ≤ length bytes
    magic : 2 < n → take 4 bytes ≡ codes "PTAB"
    version : 3 < n → (v : Version) × HasVersion bytes v
    reserved : 4 < n → HasVersion bytes First → short_at bytes 6 ≡ 0
    limits : 5 < n → InLimits (word_at bytes 8) (word_at bytes 12) (word_at bytes 16)
    whole : 6 < n → (v : Version) → HasVersion bytes v → length bytes ≡ told_length v bytes

  none_before : (n : ℕ) → IsRightBefore n → (g : ImageFault) → fault_number g < n → ¬ (HasImageFault bytes g)
  none_before n right fault.Short lt h = let long = right.header lt in omega (arith, long, h)
  none_before n right fault.Magic lt h = h (right.magic lt)
  none_before n right fault.Version lt h = let is = right.version lt in h is.0 is.1
  none_before n right fault.Reserved lt h = h.1 (right.reserved lt h.0)
  none_before n right fault.Counts lt h = h (right.limits lt)
  none_before n right fault.Length lt h = h.2 (right.whole lt h.0 h.1)
  none_before n right (fault.Default s) lt h = h
  none_before n right (fault.Base s) lt h = h
  none_before n right (fault.Accept s) lt h = h
  none_before n right (fault.Next c) lt h = h
  none_before n right fault.NoMemory lt h = h
  none_before n right (fault.Depth s) lt h = h

  first_by : (f : ImageFault) → HasImageFault bytes f → IsRightBefore (fault_number f) → IsFirstImageFault bytes f
  first_by f h right = record {
    has = h;
    first = λ g there. ⊎_elim (λ lt. absurd (none_before (fault_number f) right g lt there)) (λ le. le)
        (cases_lt (fault_number g) (fault_number f));
  }

  abbrev Fault : Type 0
  Fault = (f : ImageFault) × IsFirstImageFault bytes f

  short_first : length bytes < 20 → Fault
  short_first h = (
    fault.Short,
    first_by fault.Short h (record {
      header = λ lt. absurd (omega (arith, lt));
      magic = λ lt. absurd (omega (arith, lt));
      version = λ lt. absurd (omega (arith, lt));
      reserved = λ lt. absurd (omega (arith, lt));
      limits = λ lt. absurd (omega (arith, lt));
      whole = λ lt. absurd (omega (arith, lt));
    }),
  )

  module _ (header : 20 ≤ length bytes) where
    magic_first : ¬ (take 4 bytes ≡ codes "PTAB") → Fault
    magic_first h = (
      fault.Magic,
      first_by fault.Magic h (record {
        header = λ lt. header;
        magic = λ lt. absurd (omega (arith, lt));
        version = λ lt. absurd (omega (arith, lt));
        reserved = λ lt. absurd (omega (arith, lt));
        limits = λ lt. absurd (omega (arith, lt));
        whole = λ lt. absurd (omega (arith, lt));
      }),
    )

    module _ (magic : take 4 bytes ≡ codes "PTAB") where
      version_first : ((v : Version) → ¬ (HasVersion bytes v)) → Fault
      version_first h = (
        fault.Version,
        first_by fault.Version h (record {
          header = λ lt. header;
          magic = λ lt. magic;
          version = λ lt. absurd (omega (arith, lt));
          reserved = λ lt. absurd (omega (arith, lt));
          limits = λ lt. absurd (omega (arith, lt));
          whole = λ lt. absurd (omega (arith, lt));
        }),
      )

      module _ (v : Version) (version : HasVersion bytes v) where
        reserved_first : HasVersion bytes First × ¬ (short_at bytes 6 ≡ 0) → Fault
        reserved_first h = (
          fault.Reserved,
          first_by fault.Reserved h (record {
            header = λ lt. header;
            magic = λ lt. magic;
            version = λ lt. (v, version);
            reserved = λ lt. absurd (omega (arith, lt));
            limits = λ lt. absurd (omega (arith, lt));
            whole = λ lt. absurd (omega (arith, lt));
          }),
        )

        module _ (reserved : HasVersion bytes First → short_at bytes 6 ≡ 0) where
          counts_first : ¬ (InLimits (word_at bytes 8) (word_at bytes 12) (word_at bytes 16)) → Fault
          counts_first h = (
            fault.Counts,
            first_by fault.Counts h (record {
              header = λ lt. header;
              magic = λ lt. magic;
              version = λ lt. (v, version);
              reserved = λ lt. reserved;
              limits = λ lt. absurd (omega (arith, lt));
              whole = λ lt. absurd (omega (arith, lt));
            }),
          )

          length_first : InLimits (word_at bytes 8) (word_at bytes 12) (word_at bytes 16) → ¬ (length bytes ≡ told_length v bytes) → Fault
          length_first limits h = (
            fault.Length,
            first_by fault.Length (v, version, h) (record {
              header = λ lt. header;
              magic = λ lt. magic;
              version = λ lt. (v, version);
              reserved = λ lt. reserved;
              limits = λ lt. limits;
              whole = λ lt. absurd (omega (arith, lt));
            }),
          )

  -- the version of the header, or none
  which : ((v : Version) × HasVersion bytes v) ⊎ ((v : Version) → ¬ (HasVersion bytes v))
  which = ⊎_elim
      (λ is. inl (First, is))
      (λ not_one. ⊎_elim (λ is. inl (Second, is)) (λ not_two. inr (neither not_one not_two)) (decided_equal (short_at bytes 4) 2))
      (decided_equal (short_at bytes 4) 1)
    where
      neither : ¬ (short_at bytes 4 ≡ 1) → ¬ (short_at bytes 4 ≡ 2) → (v : Version) → ¬ (HasVersion bytes v)
      neither not_one not_two First h = not_one h
      neither not_one not_two Second h = not_two h

  unreserved : (v : Version) → HasVersion bytes v → (HasVersion bytes First → short_at bytes 6 ≡ 0) ⊎
      (HasVersion bytes First × ¬ (short_at bytes 6 ≡ 0))
  unreserved First version = ⊎_elim (λ is. inl (λ _. is)) (λ no. inr (version, no)) (decided_equal (short_at bytes 6) 0)
  unreserved Second version = inl (λ one. let e : 1 ≡ 2 = sym one ∙ version in absurd (omega (arith, e)))

  whole_or_fault : IsWhole bytes ⊎ Fault
  whole_or_fault = ⊎_elim
      (λ lt. inr (short_first lt))
      (λ a. ⊎_elim
      (λ b. ⊎_elim
      (λ d. ⊎_elim
      (λ e. ⊎_elim
      (λ f. ⊎_elim
      (λ g. inl (
        d.0,
        record {
          header = a;
          magic = b;
          version = d.1;
          reserved = λ is. e (subst (HasVersion bytes) is d.1);
          limits = f;
          whole = g;
        },
      ))
      (λ h. inr (length_first a b d.0 d.1 e f h))
      (decided_equal (length bytes) (told_length d.0 bytes)))
      (λ h. inr (counts_first a b d.0 d.1 e h))
      (decided_limits (word_at bytes 8) (word_at bytes 12) (word_at bytes 16)))
      (λ h. inr (reserved_first a b d.0 d.1 h))
      (unreserved d.0 d.1))
      (λ h. inr (version_first a b h))
      which)
      (λ h. inr (magic_first a h))
      (decided_list (take 4 bytes) (codes "PTAB")))
      (cases_lt (length bytes) 20)

pub image_or_fault : (bytes : List ℕ) → are_bytes bytes →
    ((t : Table) × IsImageOf bytes t) ⊎ ((f : ImageFault) × IsFirstImageFault bytes f)
image_or_fault bytes all = ⊎_elim
    (λ w. inl (table_at w.0 bytes, (w.0, whole_is_image bytes (low_bytes bytes all) w.0 w.1)))
    (λ f. inr f)
    (whole_or_fault bytes)
