-- What is found in a store is so in the policy that its changes made.
use Rattle.std.proofs.Common.{◌≡◌, ℕ, List, Some, Option, sym, ap, ◌∙◌, subst}
use Rattle.mediation.specs.Deeds.{Deed, policy_after}
use Rattle.profile_registry.specs.declared.news.News.{News}
use Rattle.profile_registry.specs.declared.news.News.TheVariants.{Same, Profile}
use Rattle.profile_registry.specs.declared.store.Store.{Store}
use Rattle.profile_registry.specs.News.{IsNews}
use Rattle.profile_registry.specs.Rule.{policy_of, IsMadeBy}

module _ (store read : Store) (seen now : List Deed) (name : List ℕ) (known : Option ℕ) (version : ℕ) where
  made_read : read ≡ store → now ≡ seen → IsMadeBy seen store → IsMadeBy now read
  made_read same still made = subst (λ (deeds : List Deed). IsMadeBy deeds read) (sym still)
      (subst (λ (x : Store). IsMadeBy seen x) (sym same) made)

  pub news_read : (news : News) → read ≡ store → now ≡ seen → IsMadeBy seen store → version ≡ read.version →
      IsNews (policy_of read name) known read.version news → IsNews (policy_after now name) known version news
  news_read Same same still made all is = is ∙ ap Some (sym all)
  news_read (Profile profile) same still made all (new, is) =
      (λ at. new (at ∙ ap Some all), is ∙ (made_read same still made).policy name)
