-- What reads gave, and what is left.
use Rattle.std.proofs.Common.{◌≡◌, ℕ, ◌<◌, Bool, true, false, List, [], ◌∷◌, ◌++◌, take, Option, None, Some, Result, Ok, IfSome, sym, ◌∙◌, ap, refl, inl, inr}
use Rattle.std.proofs.{Common.append-nil, Common.append_assoc, lemmas.List.Concat.flat_map-append}
use Rattle.std.specs.{Io.KnownBytes.Consumes, Io.KnownBytes.Keeps, List.flat_map}
use Rattle.tera_report.specs.inner.WriterLaws.{folds_joined}
use Rattle.tera_replies.specs.Source.{MayErr, Giving, given_by, Reads, ReadsTo}
use Rattle.tera_replies.specs.declared.source.ReadError.{ReadError}

pub Consumes-none : (known : Option (List ℕ)) → Consumes known known []
Consumes-none None = tt
Consumes-none (Some xs) = refl

-- what is kept gave nothing
pub kept_is_none : (a b : Option (List ℕ)) → Keeps a b → Consumes a b []
kept_is_none None b keeps = tt
kept_is_none (Some xs) None keeps = absurd keeps
kept_is_none (Some xs) (Some ys) keeps = sym keeps

pub Consumes-append : (a b c : Option (List ℕ)) (xs ys : List ℕ) → Consumes a b xs → Consumes b c ys → Consumes a c (xs ++ ys)
Consumes-append None b c xs ys g h = tt
Consumes-append (Some hs) None c xs ys g h = absurd g
Consumes-append (Some hs) (Some bs) None xs ys g h = absurd h
Consumes-append (Some hs) (Some bs) (Some cs) xs ys g h = g ∙ ap (λ (zs : List ℕ). xs ++ zs) h ∙ sym (append_assoc xs ys cs)

-- where it is known what the source had, that is what it gave and what is left
pub where_known : (first left : Option (List ℕ)) (given : List ℕ) (P : List ℕ → Type 0) → Consumes first left given
    → ((bytes rest : List ℕ) → left ≡ Some rest → bytes ≡ given ++ rest → P bytes) → IfSome first P
where_known None left given P consumed then = tt
where_known (Some bytes) None given P consumed then = absurd consumed
where_known (Some bytes) (Some rest) given P consumed then = then bytes rest refl consumed

-- no read
pub reads_nothing : {R : Type 0} (gave : R → List ℕ → Result ℕ ReadError → R → Type 0) (s : R) → Reads gave s [] s
reads_nothing gave s = record { attempts = []; calls = refl; whole = refl }

-- one read more
pub reads_more : {R : Type 0} (gave : R → List ℕ → Result ℕ ReadError → R → Type 0) {s t : R} {bytes : List ℕ} (piece : List ℕ) (count : ℕ)
    (u : R) → 0 < count → Reads gave s bytes t → gave t piece (Ok count) u → Reads gave s (bytes ++ take count piece) u
reads_more gave {s} {t} piece count u some f one =
    let a : Giving = record { piece = piece; count = count; some = some } in
    record {
      attempts = f.attempts ++ a ∷ [];
      calls = folds_joined (λ x b y. gave x b.piece (Ok b.count) y) s f.attempts t (a ∷ []) u f.calls (u, one, refl);
      whole = flat_map-append given_by f.attempts (a ∷ []) ∙ (λ i. f.whole i ++ append-nil (take count piece) i);
    }

-- what all reads gave
pub reads_all : {R : Type 0} (gave : R → List ℕ → Result ℕ ReadError → R → Type 0) {s t : R} {before last : List ℕ}
    → ReadsTo gave s before last t → Reads gave s (before ++ last) t
reads_all gave {s} (inl (none, also, same)) = rw (none, also, same) (reads_nothing gave s)
reads_all gave {s} {t} (inr (mid, one, reads, told, is)) = rw is (reads_more gave one.piece one.count t one.some reads told)

-- a source that fails behind what is left fails behind nothing
pub fails_behind : (fails : Option Bool) (left : Option (List ℕ)) → MayErr fails left → MayErr fails (Some [])
fails_behind (Some true) left may = refl
fails_behind (Some false) left may = absurd may
fails_behind None left may = tt
