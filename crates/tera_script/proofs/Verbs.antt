-- The look-up of words, tried on the word of each verb and on the name of each type.
use Rattle.std.proofs.Common.{◌≡◌, ◌<◌, ℕ, List, ◌∷◌, length, refl, ap, sym, ◌∙◌, arith, subst}
use Rattle.tera_script.specs.declared.verb.Verb.{Verb}
use Rattle.tera_script.specs.declared.verb.Verb.TheVariants as verb
use Rattle.tera_script.specs.Word.{IsName}
use Rattle.tera_script.specs.Verb.{word_of}
use Rattle.tera_script.specs.inner.Call.{IsLike}
use Rattle.std.specs.Prelude.{◌≡◌, ℕ, List, [], ◌∷◌, cond, Option, Some, None, refl}
use Rattle.std.specs.Str.{bytes_eq}
use Rattle.std.proofs.lemmas.Option.{same_Some}
use Rattle.tera_meaning.specs.Conversion.{IntegerType, type_name, u8, u16, u32, u64, u128, usize, i8, i16, i32, i64, i128, isize}

pub word_is_name : (v : Verb) → IsName (word_of v)
word_is_name verb.Set = (refl, refl)
word_is_name v = (refl, refl)

-- every word has two bytes
pub no_short_verb : (word : List ℕ) → length word < 2 → (v : Verb) → ¬ (word_of v ≡ word)
no_short_verb word h verb.Set e = omega (arith, ap length e)
no_short_verb word h v e = omega (arith, ap length e)

-- a verb's word is like itself
is_like : (word behind others : List ℕ) (b c : ℕ) → word ≡ b ∷ behind → behind ≡ c ∷ others → IsLike word (length word) b c
is_like word behind others b c e f = rw (e, f) (refl, refl, refl)

-- no two verbs' words are like one another
one_like : (v w : Verb) (len b c : ℕ) → IsLike (word_of v) len b c → IsLike (word_of w) len b c → v ≡ w
one_like verb.Set verb.Set len b c h g = refl
one_like verb.Set w len b c h g = absurd (omega arith)
one_like v verb.Set len b c h g = absurd (omega arith)
one_like v w len b c h g = grind arith

like_itself : (v : Verb) → (len : ℕ) × (b : ℕ) × (c : ℕ) × IsLike (word_of v) len b c
like_itself verb.Set = (_, _, _, (refl, refl, refl))
like_itself v = (_, _, _, (refl, refl, refl))

-- no two verbs have one word
pub same_verb : (v w : Verb) → word_of v ≡ word_of w → v ≡ w
same_verb v w e = let like = like_itself v in one_like v w like.0 like.1 like.2 like.3 (subst (λ word. IsLike word like.0 like.1 like.2) e like.3)

module _ {word behind others : List ℕ} {b c : ℕ} (e : word ≡ b ∷ behind) (f : behind ≡ c ∷ others) where
  -- a word like which no verb's is is none's
  pub no_verb : ((v : Verb) → IsLike (word_of v) (length word) b c → ⊥) → (v : Verb) → ¬ (word_of v ≡ word)
  no_verb none v is = none v (subst (λ w. IsLike w (length word) b c) (sym is) (is_like word behind others b c e f))

  -- one like which another verb's is is that verb's or none's
  pub no_other_verb : (likely : Verb) → IsLike (word_of likely) (length word) b c → ¬ (word_of likely ≡ word) → (v : Verb)
      → ¬ (word_of v ≡ word)
  no_other_verb likely like n v is = n
      (ap word_of (one_like likely v (length word) b c like (subst (λ w. IsLike w (length word) b c) (sym is) (is_like word behind others b c e f))) ∙ is)

-- the first of some types that has a name
abbrev first_named : List ℕ → List IntegerType → Option IntegerType
first_named name [] = None
first_named name (type ∷ types) = cond (bytes_eq name (type_name type)) (Some type) (first_named name types)

abbrev named : List ℕ → Option IntegerType
named name =
    first_named name (u8 ∷ u16 ∷ u32 ∷ u64 ∷ u128 ∷ usize ∷ i8 ∷ i16 ∷ i32 ∷ i64 ∷ i128 ∷ isize ∷ [])

named_is : (type : IntegerType) → named (type_name type) ≡ Some type
named_is u8 = refl
named_is type = refl

pub same_type : (a b : IntegerType) → type_name a ≡ type_name b → a ≡ b
same_type a b e = same_Some a b (sym (named_is a) ∙ ap named e ∙ named_is b)
