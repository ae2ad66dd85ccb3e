-- From what was put into a formatter to what Display says of it, and from what tells a refusal to its text.
use Rattle.std.proofs.Common.{◌≡◌, ◌↔◌, ℕ, List, [], ◌++◌, codes, Option, None, Some, Result, Ok, Err, refl, sym, subst}
use Rattle.std.specs.Prelude.{⊤}
use Rattle.std.specs.Fmt.{◌++?◌, debug_str, debug_list, HasWrittenStyled, IsDefaultSpec, DisplaysOnOk, DisplaysStyledOnOk}
use Rattle.std.specs.declared.fmt.Error.{Error}
use Rattle.std.specs.declared.fmt.Formatter.{Formatter}
use Rattle.tera_report.specs.Quoted.{IsText}
use Rattle.tera_report.specs.Refusal.{Refusal, circular_extend, circular_include, writing_failed, message, number_out_of_range, stated, extend_words}
use Rattle.tera_report.specs.Refusal.{include_words, text_of, Tells, TellsChain}
use Rattle.tera_report.specs.Sink.{Puts, FormatterTakes}
use Rattle.tera_report.proofs.PutLaws.{texts_joined, some_text}
use Rattle.tera_report.proofs.QuoteLaws.{list_known, known_list, some_list}

module _ {W : Type 0} (took : W → List ℕ → W → Type 0) (P : List ℕ → Type 0) (f g : Formatter W) where
  -- what was put into a formatter is what it displays, under any options
  pub displays_styled : (text : Option (List ℕ)) (result : Result (Unit {0}) Error) → ((bytes : List ℕ) → P bytes → IsText text bytes)
      → Puts (FormatterTakes took) (λ _ _ _. ⊤) result P f g → DisplaysStyledOnOk took f result text g
  displays_styled None result known puts = tt
  displays_styled (Some text) (Ok done) known (bytes, has, takes) = λ flush ok.
      subst (λ l. HasWrittenStyled took f l g) (known bytes has) (takes flush)
  displays_styled (Some text) (Err fault) known puts = λ flush ok. absurd (cc)

  pub displays_plain : (text : Option (List ℕ)) (result : Result (Unit {0}) Error) → ((bytes : List ℕ) → P bytes → IsText text bytes)
      → Puts (FormatterTakes took) (λ _ _ _. ⊤) result P f g → DisplaysOnOk took f result text g
  displays_plain None result known puts = tt
  displays_plain (Some text) result known puts = λ plain ok.
      let wrote = displays_styled (Some text) result known puts plain.flush ok in
      record { wrote = wrote.wrote; plain = record { bare = subst IsDefaultSpec (sym wrote.spec) plain.bare; flush = wrote.flush } }

told_chain : (words : List ℕ) (chain : List (List ℕ)) (bytes : List ℕ) → TellsChain words chain bytes
    → IsText (Some words ++? debug_list debug_str chain ++? Some (codes "`")) bytes
told_chain words chain bytes (names, stands, is) =
    let names_text = debug_list debug_str chain in
    subst (IsText (Some words ++? names_text ++? Some (codes "`"))) (sym is)
    (texts_joined (Some words) (names_text ++? Some (codes "`")) words (names ++ codes "`") refl
    (texts_joined names_text (Some (codes "`")) names (codes "`") (list_known chain names stands) refl))

-- what tells a refusal is its text, where that is known
pub told_known : (refusal : Refusal) (bytes : List ℕ) → Tells refusal bytes → IsText (text_of refusal) bytes
told_known (circular_extend template chain) bytes told = told_chain (extend_words template) chain bytes told
told_known (circular_include template chain) bytes told = told_chain (include_words template) chain bytes told
told_known (writing_failed kind) bytes told = tt
told_known refusal bytes told = told

-- the text is told, where it is known
text_chain : (words : List ℕ) (chain : List (List ℕ)) (bytes : List ℕ) (names : Option (List ℕ)) → debug_list debug_str chain ≡ names
    → Some words ++? names ++? Some (codes "`") ≡ Some bytes → TellsChain words chain bytes
text_chain words chain bytes None known is = absurd (cc)
text_chain words chain bytes (Some names) known is =
    (names, known_list chain names known, sym (Some-same is))
  where
    Some-same : {a b : List ℕ} → Some a ≡ Some b → a ≡ b
    Some-same e = cc

pub text_tells : (refusal : Refusal) (bytes : List ℕ) → text_of refusal ≡ Some bytes → Tells refusal bytes
text_tells (circular_extend template chain) bytes is = text_chain (extend_words template) chain bytes _ refl is
text_tells (circular_include template chain) bytes is = text_chain (include_words template) chain bytes _ refl is
text_tells (writing_failed kind) bytes is = absurd (cc)
text_tells refusal bytes is = subst (λ o. IsText o bytes) (sym is) refl

some_chain : (words : List ℕ) (chain : List (List ℕ)) → (bytes : List ℕ) × TellsChain words chain bytes
some_chain words chain = let names = some_list chain in (words ++ (names.0 ++ codes "`"), (names.0, names.1, refl))

-- some bytes tell a refusal
pub some_telling : (refusal : Refusal) → (bytes : List ℕ) × Tells refusal bytes
some_telling (circular_extend template chain) = some_chain (extend_words template) chain
some_telling (circular_include template chain) = some_chain (include_words template) chain
some_telling (writing_failed kind) = (codes "Io error while writing rendered value to output: ", ([], refl))
some_telling refusal = some_text (text_of refusal)

-- what tells the error of a refusal tells the refusal
pub telling_stated : (refusal : Refusal) (bytes : List ℕ) → Tells (stated refusal) bytes ↔ Tells refusal bytes
telling_stated (message words) bytes = ((λ h. h), (λ h. h))
telling_stated (number_out_of_range number target) bytes = ((λ h. h), (λ h. h))
telling_stated refusal bytes = ((λ h. h), (λ h. h))
