-- A text that is a query writes nothing, whatever the schema is.
use Rattle.std.proofs.Common.{◌≡◌, ℕ, ◌&&◌, ◌==◌, Bool, true, false, if◌then◌else◌, List, [], ◌∷◌, length, Option, None, Ok, Err, refl, sym, subst, ◌∙◌, true≢false}
use Rattle.sqlite_ast.specs.declared.Statement.{Statement}
use Rattle.sqlite_ast.specs.declared.Statement.TheVariants.{Select}
use Rattle.sqlite_schema.specs.declared.command.Command.{Command}
use Rattle.sqlite_schema.specs.declared.command.Returning.{Returning}
use Rattle.sqlite_schema.specs.declared.schema.Schema.{Schema}
use Rattle.sqlite_resolve.specs.declared.compiled.Compiled.{Compiled}
use Rattle.sqlite_resolve.specs.declared.error.CompileError.TheVariants.{NoSuchTable}
use Rattle.sqlite_resolve.specs.Compile.{first, compiled, planned, meaning, returning, timed, with_command}
use Rattle.sqlite_resolve.specs.Lowering.{and_then, Checked}
use Rattle.sqlite_syntax.specs.declared.statement.Parsed.{Parsed}
use Rattle.sqlite.specs.Listing.{understood, listing_schema, reads_listing, if_select, is_select as is_select_command}
use Rattle.osm_sql_store.specs.Load.Selects.{is_select, is_query, selects}

abbrev Plain : Compiled → Type 0
Plain c = (c.returning ≡ None) × (c.formats ≡ [])

abbrev IfOkPlain : Checked Compiled → Type 0
IfOkPlain (Ok c) = Plain c
IfOkPlain (Err e) = Unit {0}

no_elements : {X : Type 0} (xs : List X) → (length xs == 0) ≡ true → xs ≡ []
no_elements [] e = refl
no_elements (x ∷ xs) e = absurd (grind (Rattle.std.proofs.Common.arith, Rattle.std.proofs.lemmas.Bool.Decides.nat_tests))

-- what follows the parse
made : (p : Parsed) (formats : List (List ℕ)) (shown : Checked (Option Returning)) (found : Checked Command) → formats ≡ [] → shown ≡ Ok None
    → IfOkPlain (and_then (and_then (and_then shown (λ s. and_then found (λ c. Ok (c, s)))) (λ both. Ok (formats, both))) (λ plan. Ok (with_command p plan)))
made p formats (Err e) found none is = absurd (cc)
made p formats (Ok s) (Err e) none is = tt
made p formats (Ok s) (Ok c) none is = (let same : s ≡ None = cc in same, none)

silent : (schema : Schema) (base : ℕ) (s : Statement) → is_select s ≡ true → returning schema base s ≡ Ok None
unfolding returning
silent schema base (Select s) is = refl
silent schema base _ is = absurd (true≢false (sym is))

as_parsed : (schema : Schema) (formats : List (List ℕ)) (s : Statement) → is_select s ≡ true → timed schema formats s ≡ formats
unfolding timed
as_parsed schema formats (Select s) is = refl
as_parsed schema formats _ is = absurd (true≢false (sym is))

both : (a b : Bool) → (a && b) ≡ true → (a ≡ true) × (b ≡ true)
both true true e = (refl, refl)
both true false e = absurd (true≢false (sym e))
both false b e = absurd (true≢false (sym e))

compiled_plain : (schema : Schema) (text : List ℕ) → selects text ≡ true → IfOkPlain (compiled schema text)
unfolding compiled planned meaning
compiled_plain schema text is = elim (first text) as (λ r. is_query r ≡ true → IfOkPlain (and_then r (λ p. and_then (planned schema p) (λ plan. Ok (with_command p plan))))) [
  | Ok p ↦ λ known.
      let parts = both (is_select p.statement) (length p.formats == 0) known in
      let formats = as_parsed schema p.formats p.statement parts.0 ∙ no_elements p.formats parts.1 in
      made p (timed schema p.formats p.statement) _ _ formats (silent schema _ p.statement parts.0)
  | Err e ↦ λ known. absurd (true≢false (sym known))
] is

selected : (r : Checked Compiled) → IfOkPlain r → IfOkPlain (if_select r)
selected (Ok c) plain = elim (is_select_command c.command) as (λ b. IfOkPlain (if b then Ok c else Err NoSuchTable)) [ true ↦ plain | false ↦ tt ]
selected (Err e) plain = tt

pub query_plain : (schema : Schema) (text : List ℕ) → selects text ≡ true → (c : Compiled) → understood schema text ≡ Ok c → Plain c
unfolding understood
query_plain schema text is c known =
    let plain : IfOkPlain (understood schema text) = elim (reads_listing schema text) as (λ b. IfOkPlain (if b then if_select (compiled listing_schema text) else compiled schema text))
    [ true ↦ selected _ (compiled_plain listing_schema text is) | false ↦ compiled_plain schema text is ] in
    subst IfOkPlain known plain
