use Rattle.std.proofs.Common.{ap}
use Rattle.profile_registry.specs.declared.known.Known.{Known}
use Rattle.profile_registry.proofs.KeptRule.{turns}
use Rattle.profile_registry.proofs.NewsRead.{news_read}
use Rattle.profile_registry.proofs.news.look_up_since.Goals.{in-Ok-news, in-Err-news}
use Rattle.profile_registry.proofs.news.look_up_since.Goals as goal

pub enter_as-requires : goal.enter_as-requires
enter_as-requires c = turns _ _

pub returns-after-news-clause-news : goal.returns-after-news-clause-news
returns-after-news-clause-news c =
    elim c.match-news.branch [
      | in-Ok-news w ↦ rw w.found-is (news_read _ _ _ _ _ _ _ _ c.get-store.ensures (ap (λ (k : Known). k.seen) c.leave.ensures.1)
          c.in-Ok.ensures.1.1 c.version-version.ensures (rw w.in-Ok-news.is at c.news.ensures.ok))
      | in-Err-news w ↦ rw w.found-is tt
    ]
