use Rattle.std.proofs.Common.{Bor, ℕ, refl, ◌≡◌, ◌∙◌, List, [], ◌∷◌, ◌++◌, map, Option, Some, sym, ap, subst}
use Rattle.std.proofs.lemmas.List.{map-append}
use Rattle.std.specs.Option.{option_copied}
use Rattle.osm_value.specs.declared.element.Element.{Element}
use Rattle.osm_value.specs.Value.{Text, MemberValue}
use Rattle.osm_value.specs.Elements.{tags_of_element}
use Rattle.osm_columns.specs.Values.{user_of_element, members_of_element}
use Rattle.osm_columns.specs.Lists.{joined}
use Rattle.osm_columns.specs.Texts.{NameAll, Extends}
use Rattle.osm_columns.specs.Indexes.{users_of, keys_of, values_of, roles_of, texts_in}
use Rattle.osm_columns.proofs.ListLemmas.{mapped-more, joined-more}
use Rattle.osm_columns.proofs.TextLemmas.{extends-same, extends-twice}
use Rattle.osm_columns.proofs.IndexLemmas.{names-grown}
use Rattle.osm_columns.proofs.indexes.TextIndexes.push.Goals as goal

-- what is mapped of the lists of all elements, with one element more
listed-more : {A B : Type 0} (lists : Element → List A) (f : A → B) (es : List Element) (e : Element) → map f (joined (map lists es)) ++ map f (lists e) ≡ map f (joined (map lists (es ++ e ∷ [])))
listed-more lists f es e =
    sym (map-append f (joined (map lists es)) (lists e))
    ∙ ap (map f) (sym (joined-more (map lists es) (lists e)) ∙ ap joined (mapped-more lists es e))

mapped-twice : {A B C : Type 0} (f : A → B) (g : B → C) (xs : List A) → map (λ x. g (f x)) xs ≡ map g (map f xs)
mapped-twice f g [] = refl
mapped-twice f g (x ∷ xs) = ap (λ l. g (f x) ∷ l) (mapped-twice f g xs)

pub returns-clause-indexes : goal.returns-clause-indexes
returns-clause-indexes c = λ es h.
    let e : Element = c.args.element.now in
    let now : Bor (List ℕ) × Bor (List ℕ) → Text × Text = λ t. (t.0.now, t.1.now) in
    let key : Text × Text → Option Text = λ t. Some t.0 in
    let value : Text × Text → Option Text = λ t. Some t.1 in
    let to_users : Extends (texts_in c.args.self.now.dictionary) (texts_in c.push_user.new.dictionary) = c.in_ok-push_user.ensures.extends in
    let to_keys : Extends (texts_in c.push_user.new.dictionary) (texts_in c.push_keys.new.dictionary) = c.in_ok-push_keys.ensures.extends in
    let to_values : Extends (texts_in c.push_keys.new.dictionary) (texts_in c.push_values.new.dictionary) = c.in_ok-push_values.ensures.extends in
    let to_roles : Extends (texts_in c.push_values.new.dictionary) (texts_in c.push_roles.new.dictionary) = c.in_ok-push_roles.ensures.extends in
    let behind_keys : Extends (texts_in c.push_keys.new.dictionary) (texts_in c.push_roles.new.dictionary) = extends-twice _ _ _ to_values to_roles in
    let behind_users : Extends (texts_in c.push_user.new.dictionary) (texts_in c.push_roles.new.dictionary) = extends-twice _ _ _ to_keys behind_keys in
    let before_values : Extends (texts_in c.args.self.now.dictionary) (texts_in c.push_keys.new.dictionary) = extends-twice _ _ _ to_users to_keys in
    let before_roles : Extends (texts_in c.args.self.now.dictionary) (texts_in c.push_values.new.dictionary) = extends-twice _ _ _ before_values to_values in
    let last : List Text = texts_in c.push_roles.new.dictionary in
    let user : option_copied c.user.result ≡ user_of_element e = c.user.ensures.exact ∙ ap (λ i. i.user) c.info.ensures.exact in
    let keys : map (λ t. Some t.0.now) c.tags-tags.result.now ≡ map key (tags_of_element e) = mapped-twice now key c.tags-tags.result.now ∙ ap (map key) c.tags-tags.ensures.exact in
    let values : map (λ t. Some t.1.now) c.tags-tags.result.now ≡ map value (tags_of_element e) = mapped-twice now value c.tags-tags.result.now ∙ ap (map value) c.tags-tags.ensures.exact in
    let role : MemberValue → Option Text = λ m. Some m.role in
    let U : List (Option Text) → Type 0 = λ named. NameAll last c.push_user.new.indexes.items named in
    let K : List (Option Text) → Type 0 = λ named. NameAll last c.push_keys.new.indexes.items named in
    let V : List (Option Text) → Type 0 = λ named. NameAll last c.push_values.new.indexes.items named in
    let R : List (Option Text) → Type 0 = λ named. NameAll last c.push_roles.new.indexes.items named in
    record {
      users_are = subst U (ap (λ t. users_of es ++ t ∷ []) user ∙ mapped-more user_of_element es e) (names-grown _ last _ _ _ _ (users_of es) _ h.users_are (extends-same _) c.in_ok-push_user.ensures behind_users);
      keys_are = subst K (ap (λ l. keys_of es ++ l) keys ∙ listed-more tags_of_element key es e) (names-grown _ last _ _ _ _ (keys_of es) _ h.keys_are to_users c.in_ok-push_keys.ensures behind_keys);
      values_are = subst V (ap (λ l. values_of es ++ l) values ∙ listed-more tags_of_element value es e) (names-grown _ last _ _ _ _ (values_of es) _ h.values_are before_values c.in_ok-push_values.ensures to_roles);
      roles_are = subst R (ap (λ l. roles_of es ++ map role l) c.members_of.ensures ∙ listed-more members_of_element role es e) (names-grown _ last _ _ _ _ (roles_of es) _ h.roles_are before_roles c.in_ok-push_roles.ensures (extends-same _));
    }
