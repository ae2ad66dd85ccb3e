-- What is taken in turn is taken together; and what fails on a beginning, or on what comes after
-- it, fails on the whole.
use Rattle.std.specs.Prelude.{◌≡◌, ◌||◌, ℕ, List, [], ◌++◌, Option, Result, Ok, Err}
use Rattle.std.specs.Prelude.{refl}
use Rattle.std.proofs.Common.{◌∙◌, ap, sym, subst, append_assoc, append-nil, arith, length-append}
use Rattle.std.proofs.KnownBytes.{Appends-kept, Appends-nil, Appends-trans}
use Rattle.std.proofs.Math.Bool.{or_assoc, or-false}
use Rattle.std.proofs.lemmas.List.Folds.{concat-append}
use Rattle.std.specs.declared.fmt.Formatter.{Formatter}
use Rattle.std.specs.declared.io.Error.{Error}
use Rattle.std.specs.Fmt.{WritesInCalls}
use Rattle.std.specs.Io.KnownBytes.{Appends, Keeps}
use Rattle.tera_report.specs.declared.growing.Growing.{Growing}
use Rattle.tera_report.specs.declared.room.Room.{Room}
use Rattle.tera_report.specs.declared.watch.Watched.{Watched}
use Rattle.tera_report.specs.Growing.{GrowingTakes, GrowingFails}
use Rattle.tera_report.specs.Room.{RoomTakes, RoomFails, IsDecided}
use Rattle.tera_report.specs.Sink.{FormatterTakes, Puts}
use Rattle.tera_report.specs.Watch.{has_failed, WatchedTakes, WatchedFails}
use Rattle.tera_report.specs.Writer.{all_taken, has_fault}
use Rattle.tera_report.specs.inner.WriterLaws.{folds_joined, passes_nothing, passes_joined}
use Rattle.tera_report.specs.inner.WriterLaws.{breaks_early, breaks_later, taken_joined}
use Rattle.tera_report.specs.inner.WriterLaws.{faults_joined}

-- what is kept grows by nothing
pub keeps_appends : (a b : Option (List ℕ)) → Keeps a b → Appends a b []
keeps_appends a b h = Appends-kept a a b [] (Appends-nil a) h

module _ {W : Type 0} (contents : W → Option (List ℕ)) (wrote : W → List ℕ → Result ℕ Error → W
    → Type 0) where
  pub watched_nothing : (s : Watched W) → WatchedTakes contents wrote s [] s
  watched_nothing s = record {
    same = refl;
    grows = Appends-nil _;
    passed = passes_nothing wrote _;
    told = sym (or-false (has_failed s));
  }

  pub watched_joined : (s : Watched W) (a : List ℕ) (t : Watched W) (b : List ℕ) (u : Watched W)
      → WatchedTakes contents wrote s a t → WatchedTakes contents wrote t b u
      → WatchedTakes contents wrote s (a ++ b) u
  watched_joined s a t b u p q = record {
    same = q.same ∙ p.same;
    grows = Appends-trans _ _ _ a b p.grows q.grows;
    passed = passes_joined wrote _ a _ b _ p.passed q.passed;
    told = q.told ∙ ap (λ x. x || has_fault q.passed.attempts) p.told
        ∙ or_assoc (has_failed s) (has_fault p.passed.attempts) (has_fault q.passed.attempts)
        ∙ ap (λ x. has_failed s || x)
        (sym (faults_joined p.passed.attempts q.passed.attempts));
  }

  pub watched_early : (s : Watched W) (a : List ℕ) (t : Watched W) (b : List ℕ)
      → WatchedFails contents wrote s a t → WatchedFails contents wrote s (a ++ b) t
  watched_early s a t b p = record {
    same = p.same;
    told = p.told;
    broke = breaks_early wrote _ a _ b p.broke;
    grows = p.grows;
  }

  pub watched_later : (s : Watched W) (a : List ℕ) (t : Watched W) (b : List ℕ) (u : Watched W)
      → WatchedTakes contents wrote s a t → WatchedFails contents wrote t b u
      → WatchedFails contents wrote s (a ++ b) u
  watched_later s a t b u p q = record {
    same = q.same ∙ p.same;
    told = q.told;
    broke = breaks_later wrote _ a _ b _ p.passed q.broke;
    grows = subst (Appends _ _)
        (ap (λ l. l ++ all_taken q.broke.attempts) (sym p.passed.whole)
        ∙ sym (taken_joined p.passed.attempts q.broke.attempts))
        (Appends-trans _ _ _ a (all_taken q.broke.attempts) p.grows q.grows);
  }

module _ {W : Type 0} (took : W → List ℕ → W → Type 0) where
  writes_joined : (w : W) (a : List ℕ) (v : W) (b : List ℕ) (u : W)
      → WritesInCalls took w a v → WritesInCalls took v b u → WritesInCalls took w (a ++ b) u
  writes_joined w a v b u p q = record {
    parts = p.parts ++ q.parts;
    calls = folds_joined took w p.parts v q.parts u p.calls q.calls;
    whole = concat-append p.parts q.parts ∙ (λ i. p.whole i ++ q.whole i);
  }

  pub formatter_nothing : (s : Formatter W) → FormatterTakes took s [] s
  formatter_nothing s flush = record {
    wrote =
        record { parts = []; calls = refl; whole = refl };
    spec = refl;
    flush = flush;
  }

  pub formatter_joined : (s : Formatter W) (a : List ℕ) (t : Formatter W) (b : List ℕ)
      (u : Formatter W)
      → FormatterTakes took s a t → FormatterTakes took t b u → FormatterTakes took s (a ++ b) u
  formatter_joined s a t b u p q flush =
      let first = p flush in
      let later = q first.flush in
      record {
        wrote = writes_joined _ a _ b _ first.wrote later.wrote;
        spec =
            later.spec ∙ first.spec;
        flush = later.flush;
      }

-- of a beginning, and of some bytes after it
part_early : (taken rest a b : List ℕ) → taken ++ rest ≡ a → taken ++ (rest ++ b) ≡ a ++ b
part_early taken rest a b h = sym (append_assoc taken rest b) ∙ ap (λ l. l ++ b) h

part_later : (a taken rest b : List ℕ) → taken ++ rest ≡ b → (a ++ taken) ++ rest ≡ a ++ b
part_later a taken rest b h = append_assoc a taken rest ∙ ap (λ l. a ++ l) h

grown_later : (s t u a b : List ℕ) → t ≡ s ++ a → u ≡ t ++ b → u ≡ s ++ (a ++ b)
grown_later s t u a b p q = q ∙ ap (λ l. l ++ b) p ∙ append_assoc s a b

pub room_nothing : (s : Room) → RoomTakes s [] s
room_nothing s = record {
  size = refl;
  fits = omega (arith, s.within);
  counted =
      omega arith;
  grows = sym (append-nil _);
}

pub room_joined : (s : Room) (a : List ℕ) (t : Room) (b : List ℕ) (u : Room)
    → RoomTakes s a t → RoomTakes t b u → RoomTakes s (a ++ b) u
room_joined s a t b u p q =
    let both = length-append a b in
    record {
      size = q.size ∙ p.size;
      fits = omega (arith, both, p.size, p.counted, q.fits);
      counted = omega (arith, both, p.counted, q.counted);
      grows = grown_later _ _ _ a b p.grows q.grows;
    }

pub room_early : (s : Room) (a : List ℕ) (t : Room) (b : List ℕ) → RoomFails s a t
    → RoomFails s (a ++ b) t
room_early s a t b p =
    let both = length-append a b in
    record {
      size = p.size;
      full = omega (arith, both, p.full);
      taken = p.taken;
      rest = p.rest ++ b;
      part = part_early p.taken p.rest a b p.part;
      grows = p.grows;
    }

pub room_later : (s : Room) (a : List ℕ) (t : Room) (b : List ℕ) (u : Room)
    → RoomTakes s a t → RoomFails t b u → RoomFails s (a ++ b) u
room_later s a t b u p q =
    let both = length-append a b in
    record {
      size = q.size ∙ p.size;
      full = omega (arith, both, p.size, p.counted, q.full);
      taken = a ++ q.taken;
      rest = q.rest;
      part = part_later a q.taken q.rest b q.part;
      grows = grown_later _ _ _ a q.taken p.grows q.grows;
    }

pub growing_nothing : (s : Growing) → GrowingTakes s [] s
growing_nothing s = record {
  grows = sym (append-nil _);
  counted = omega arith;
  capacity =
      omega arith;
}

pub growing_joined : (s : Growing) (a : List ℕ) (t : Growing) (b : List ℕ) (u : Growing)
    → GrowingTakes s a t → GrowingTakes t b u → GrowingTakes s (a ++ b) u
growing_joined s a t b u p q =
    let both = length-append a b in
    record {
      grows = grown_later _ _ _ a b p.grows q.grows;
      counted = omega (arith, both, p.counted, q.counted);
      capacity = omega (arith, p.capacity, q.capacity);
    }

pub growing_early : (s : Growing) (a : List ℕ) (t : Growing) (b : List ℕ) → GrowingFails s a t
    → GrowingFails s (a ++ b) t
growing_early s a t b p =
    let both = length-append a b in
    record {
      wanted = omega (arith, both, p.wanted);
      taken = p.taken;
      rest = p.rest ++ b;
      part = part_early p.taken p.rest a b p.part;
      grows = p.grows;
      capacity = p.capacity;
    }

pub growing_later : (s : Growing) (a : List ℕ) (t : Growing) (b : List ℕ) (u : Growing)
    → GrowingTakes s a t → GrowingFails t b u → GrowingFails s (a ++ b) u
growing_later s a t b u p q =
    let both = length-append a b in
    record {
      wanted = omega (arith, both, p.counted, p.capacity, q.wanted);
      taken = a ++ q.taken;
      rest = q.rest;
      part = part_later a q.taken q.rest b q.part;
      grows = grown_later _ _ _ a q.taken p.grows q.grows;
      capacity = omega (arith, p.capacity, q.capacity);
    }

-- where just these bytes have the property, a call that puts bytes with it into a room puts them in
-- exactly where they fit
pub decided_by : {E : Type 0} (P : List ℕ → Type 0) (bytes : List ℕ)
    → ((other : List ℕ) → P other → other ≡ bytes)
    → (result : Result (Unit {0}) E) (old new : Room) → Puts RoomTakes RoomFails result P old new
    → IsDecided result old bytes new
decided_by P bytes only (Ok done) old new (other, has, takes) =
    let these = subst (λ l. RoomTakes old l new) (only other has) takes in
    record { decided = ((λ _. these.fits), λ _. refl); takes = these; fails = tt }
decided_by P bytes only (Err fault) old new (other, has, fails) =
    let these = subst (λ l. RoomFails old l new) (only other has) fails in
    record {
      decided = ((λ ok. absurd (cc)), λ fits. absurd (omega (arith, fits, these.full)));
      takes = tt;
      fails = these;
    }
