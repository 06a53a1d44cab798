-- The elements of a block without flags of visibility have none.
use Rattle.std.proofs.Common.{◌≡◌, ℕ, List, [], ◌∷◌, map, length, replicate, Some, None, sym, ◌∙◌, ap, subst}
use Rattle.std.specs.List.{AllByRecursion}
use Rattle.pbf_wire.specs.Readings.{fields, each}
use Rattle.osm_value.specs.declared.element.Element.{Element}
use Rattle.osm_value.specs.declared.element.Element.TheVariants.{Node}
use Rattle.osm_value.specs.Elements.{info_of_element}
use Rattle.osm_value.specs.Value.{NodeValue}
use Rattle.osm_value.proofs.Ranges.{all_append}
use Rattle.osm_block.specs.declared.fields.TheConstants.{BLOCK_PRIMITIVEGROUP}
use Rattle.osm_block.specs.Message.{Context, Message, Plain, Dense, Way, Relation, messages, context}
use Rattle.osm_block.specs.Block.{Joins, AllAreWire, MessageOf, GroupOf, Block, values_for}
use Rattle.osm_block.specs.Flagless.{HasNoFlag, HasNoFlags}

abbrev IsUnseen : Element → Type 0
IsUnseen e = (info_of_element e).visible ≡ None

-- what holds of the parts, where N holds of what each stands to, holds of their joining
joins_all : {A B : Type 0} (R : List A → B → Type 0) (N : B → Type 0) (P : A → Type 0) → ((es : List A) (x : B) → R es x → N x → AllByRecursion P es)
    → (es : List A) (xs : List B) → Joins R es xs → AllByRecursion N xs → AllByRecursion P es
joins_all R N P each es [] joins all = subst (λ (es : List _). AllByRecursion P es) (sym joins) tt
joins_all R N P each es (x ∷ xs) joins all =
    subst (λ (es : List _). AllByRecursion P es) (sym joins.2) (all_append P joins.0 joins.1 (each joins.0 x joins.3 all.0) (joins_all R N P each joins.1 xs joins.4 all.1))

nodes_unseen : (ns : List NodeValue) → map (λ i. i.visible) (map (λ n. n.info) ns) ≡ replicate (length (map (λ n. n.info) ns)) None → AllByRecursion IsUnseen (map Node ns)
nodes_unseen [] none = tt
nodes_unseen (n ∷ ns) none = (cc, nodes_unseen ns (cc))

message_unseen : (b : Context) (es : List Element) (m : Message) → AllAreWire m × MessageOf b es m → HasNoFlag m → AllByRecursion IsUnseen es
message_unseen b es (Plain p) (whole, (n, are, of)) none = subst (λ (es : List Element). AllByRecursion IsUnseen es) (sym are) (of.info_is.visible_is ∙ none, tt)
message_unseen b es (Way p) (whole, (w, are, of)) none = subst (λ (es : List Element). AllByRecursion IsUnseen es) (sym are) (of.info_is.visible_is ∙ none, tt)
message_unseen b es (Relation p) (whole, (r, are, of)) none = subst (λ (es : List Element). AllByRecursion IsUnseen es) (sym are) (of.info_is.visible_is ∙ none, tt)
message_unseen b es (Dense ps) (whole, (ns, are, of)) none =
    subst (λ (es : List Element). AllByRecursion IsUnseen es) (sym are)
    (nodes_unseen ns (of.infos_are.visibles_are ∙ ap (λ flags. values_for (length (map (λ n. n.info) ns)) (map Some flags)) none))

pub block_unseen : (es : List Element) (w : List ℕ) → Block es w → HasNoFlags w → AllByRecursion (λ e. (info_of_element e).visible ≡ None) es
block_unseen es w block none =
    joins_all (GroupOf (context (fields w))) (λ g. AllByRecursion HasNoFlag (messages (fields g))) IsUnseen
    (λ gs g group flagless. joins_all (λ xs m. AllAreWire m × MessageOf (context (fields w)) xs m) HasNoFlag IsUnseen (message_unseen (context (fields w))) gs (messages (fields g)) group.elements_are flagless)
    es (each (fields w) BLOCK_PRIMITIVEGROUP) block.elements_are none
