-- What parts give and refuse, one after another.
use Rattle.std.specs.Prelude.{◌≡◌, ◌⊎◌, List, [], ◌∷◌, ◌++◌, true, false, Result, Ok, Err, IfErr, IsOk}
use Rattle.std.specs.List.{AllZip}
use Rattle.std.proofs.Common.{inl, inr, subst, ap, sym, refl, ◌∙◌}
use Rattle.std.proofs.lemmas.List.{reverse-append}
use Rattle.std.proofs.lemmas.List.Sums.{fold_push}
use Rattle.std.specs.BTreeMap.{insert_entry}
use Rattle.std.specs.Result.{IsErrAnd}
use Rattle.tera_conversions.specs.Given.{FirstRefuses, FirstGives, LaterRefuse, GivesPair, PutsPairs, PutsRising}
use Rattle.tera_meaning.specs.Form.{Form}
use Rattle.tera_meaning.specs.KeyMeaning.{KeyForm}
use Rattle.tera_meaning.specs.Pairs.{key_form_order, pairs_of, put}
use Rattle.tera_report.specs.Errors.{IsOutOfMemory}
use Rattle.tera_report.specs.declared.errors.Error.{Error}

module _ {X Y : Type 0} (gives : X → Y → Type 0) (refuses : X → Error → Type 0) where
  -- what is refused after parts that gave something is the first refusal
  pub refused_after : (before : List X) (given : List Y) (x : X) (after : List X) (e : Error)
      → AllZip gives before given → refuses x e → FirstRefuses gives refuses (before ++ (x ∷ after)) e
  refused_after [] [] x after e told refused = inl refused
  refused_after [] (y ∷ given) x after e told refused = elim told [ ]
  refused_after (b ∷ before) [] x after e told refused = elim told [ ]
  refused_after (b ∷ before) (y ∷ given) x after e told refused =
      inr (y, told.0, refused_after before given x after e told.1 refused)

  -- the same, of all parts
  pub first_refused : (all before : List X) (given : List Y) (x : X) (rest : List X) (e : Error)
      → before ++ (x ∷ rest) ≡ all → AllZip gives before given → refuses x e → FirstRefuses gives refuses all e
  first_refused all before given x rest e whole told refused =
      subst (λ xs. FirstRefuses gives refuses xs e) whole (refused_after before given x rest e told refused)

  -- where a part gave something after others, the first did
  first_gave : (before : List X) (given : List Y) (x : X) (rest : List X) → AllZip gives before given
      → (y : Y) × gives x y → FirstGives gives (before ++ (x ∷ rest))
  first_gave [] given x rest told gave = gave
  first_gave (b ∷ before) [] x rest told gave = elim told [ ]
  first_gave (b ∷ before) (y ∷ given) x rest told gave = (y, told.0)

  -- a part is refused, or there is no memory for what it gave
  pub later_refused : (all before : List X) (given : List Y) (x : X) (rest : List X) (e : Error)
      → before ++ (x ∷ rest) ≡ all → AllZip gives before given → (IsOutOfMemory e × (y : Y) × gives x y) ⊎ refuses x e
      → LaterRefuse gives refuses all e
  later_refused all before given x rest e whole told (inl memory) =
      inl (subst (FirstGives gives) whole (first_gave before given x rest told (memory.1, memory.2)), memory.0)
  later_refused all before given x rest e whole told (inr refused) =
      inr (first_refused all before given x rest e whole told refused)

-- a part goes from what is left to what was
pub moved_on : {X : Type 0} (before : List X) (x : X) (rest all : List X) → before ++ (x ∷ rest) ≡ all
    → (before ++ (x ∷ [])) ++ rest ≡ all
moved_on [] x rest all whole = whole
moved_on (b ∷ before) x rest all whole = ap (λ l. b ∷ l) (moved_on before x rest (before ++ (x ∷ rest)) refl) ∙ whole

module _ {X Y : Type 0} (R : X → Y → Type 0) where
  -- one more on both sides
  pub zipped_on : (xs : List X) (ys : List Y) (x : X) (y : Y) → AllZip R xs ys → R x y
      → AllZip R (xs ++ (x ∷ [])) (ys ++ (y ∷ []))
  zipped_on [] [] x y zipped last = (last, tt)
  zipped_on [] (b ∷ ys) x y zipped last = elim zipped [ ]
  zipped_on (a ∷ xs) [] x y zipped last = elim zipped [ ]
  zipped_on (a ∷ xs) (b ∷ ys) x y zipped last = (zipped.0, zipped_on xs ys x y zipped.1 last)

module _ {K X : Type 0} (key : K → KeyForm → Type 0) (gives : X → Form → Type 0) where
  -- one more pair is put
  pub puts_on : (before : List (K × X)) (pairs : List (KeyForm × Form)) (entry : K × X) (pair : KeyForm × Form)
      (made : List (KeyForm × Form)) → PutsPairs key gives before pairs → GivesPair key gives entry pair
      → made ≡ put key_form_order pairs pair.0 pair.1 → PutsPairs key gives (before ++ (entry ∷ [])) made
  puts_on before pairs entry pair made puts is_pair is_put = (
    puts.0 ++ (pair ∷ []),
    zipped_on (GivesPair key gives) before puts.0 entry pair puts.1 is_pair,
    is_put ∙ ap (λ ps. put key_form_order ps pair.0 pair.1) puts.2
        ∙ sym (fold_push (λ ps e. put key_form_order ps e.0 e.1) [] puts.0 pair),
  )

  -- the same in the place of its key
  pub places_on : (before : List (K × X)) (pairs : List (KeyForm × Form)) (entry : K × X) (pair : KeyForm × Form)
      (made : List (KeyForm × Form)) → PutsRising key gives before pairs → GivesPair key gives entry pair
      → made ≡ insert_entry key_form_order pairs pair.0 pair.1 → PutsRising key gives (before ++ (entry ∷ [])) made
  places_on before pairs entry pair made puts is_pair is_put = (
    puts.0 ++ (pair ∷ []),
    zipped_on (GivesPair key gives) before puts.0 entry pair puts.1 is_pair,
    is_put ∙ ap (λ ps. insert_entry key_form_order ps pair.0 pair.1) puts.2
        ∙ ap (λ given. pairs_of given) (sym (reverse-append puts.0 (pair ∷ []))),
  )

-- what is refused only where something is not, is refused where it is not
pub refused_where : {X : Type 0} (P : Type 0) (Q : Error → Type 0) (r : Result X Error) → (P → IsOk r) → IfErr r Q
    → IfErr r (λ e. ¬ P × Q e)
refused_where P Q (Ok x) only refused = tt
refused_where P Q (Err e) only refused = ((λ holds. let none : false ≡ true = only holds in cc), refused)

-- want of memory is answered where something was given
pub wanted_where : {X Y : Type 0} (G : Y → Type 0) (P : Error → Type 0) (r : Result X Error) → IsErrAnd r IsOutOfMemory
    → (y : Y) × G y → IfErr r (λ e. (IsOutOfMemory e × (y : Y) × G y) ⊎ P e)
wanted_where G P (Ok x) is gave = elim is [ ]
wanted_where G P (Err e) is gave = inl (is, gave.0, gave.1)

-- an error is answered as it was
pub passed_on : {X : Type 0} (P : Error → Type 0) (r : Result X Error) (e : Error) → IsErrAnd r (λ f. f ≡ e) → P e
    → IfErr r P
passed_on P (Ok x) e is holds = elim is [ ]
passed_on P (Err f) e is holds = subst P (sym is) holds
