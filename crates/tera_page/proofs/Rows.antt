-- The levels of rows.
use Rattle.std.specs.Prelude.{◌≡◌, ◌++◌, ℕ, List, refl}
use Rattle.std.proofs.Common.{subst, sym}
use Rattle.tera_page.specs.Expressions as grammar
use Rattle.tera_page.specs.Expressions.{Level, Reads, alone, ands, between, comparisons, first_level, level, nots, opposites, ors, powers}
use Rattle.tera_page.specs.Expressions.{pipes, products, second_level, sums, tighter}
use Rattle.tera_page.specs.Parsing.{row_level}
use Rattle.tera_page.specs.Symbols.{Symbol}
use Rattle.tera_page.specs.Template.{Binary, Expression, two}
use Rattle.tera_page.specs.declared.level.Row.{Row}
use Rattle.tera_page.specs.declared.level.Row.TheVariants as row

-- how many levels are tighter
abbrev pub tightness : Level → ℕ
tightness ors = 9
tightness ands = 8
tightness nots = 7
tightness comparisons = 6
tightness sums = 5
tightness products = 4
tightness pipes = 3
tightness opposites = 2
tightness powers = 1
tightness alone = 0

-- the last of a row takes all that is before it
pub row_first : (r : Row) → first_level (row_level r) ≡ row_level r
row_first row.Ors = refl
row_first row.Ands = refl
row_first row.Sums = refl
row_first row.Products = refl

pub row_second : (r : Row) → second_level (row_level r) ≡ tighter (row_level r)
row_second row.Ors = refl
row_second row.Ands = refl
row_second row.Sums = refl
row_second row.Products = refl

-- what is read of two
pub read_two : (operator : Binary) (l : Level) (e f made : Expression) (ss ts us rest : List Symbol) → level operator ≡ l
    → us ≡ between operator ++ ts → Reads (first_level l) e ss us → Reads (second_level l) f ts rest → made ≡ two operator e f
    → Reads l made ss rest
read_two operator l e f made ss ts us rest is parts first second same =
    let left = subst (λ m. Reads (first_level m) e ss (between operator ++ ts)) (sym is) (subst (Reads (first_level l) e ss) parts first) in
    let right = subst (λ m. Reads (second_level m) f ts rest) (sym is) second in
    subst (λ m. Reads m made ss rest) is
    (subst (λ x. Reads (level operator) x ss rest) (sym same) (grammar.of_two operator e f ss ts rest left right))
