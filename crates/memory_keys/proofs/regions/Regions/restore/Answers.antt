use Rattle.std.proofs.Common.{◌≡◌, ◌++◌, ◌∷◌, [], ◌∙◌, sym, length, subst, ℕ}
use Rattle.std.specs.Prelude.{OnOk}
use Rattle.std.proofs.lemmas.List.{length-replicate}
use Rattle.page_pool.proofs.Pages.{put-whole}
use Rattle.memory_keys.specs.Regions.{blank_region, regions_of}
use Rattle.memory_keys.proofs.regions.Regions.restore.Goals as goal

pub returns-clause-regions : goal.returns-clause-regions
returns-clause-regions c =
    let zeros : length (blank_region c.args.head).bytes ≡ c.args.head.length = length-replicate {A = ℕ} c.args.head.length 0 in
    subst (λ bs. OnOk c.add.result (regions_of c.add.new.pool c.add.new.self ≡ regions_of c.args.pool.now c.args.self.now ++ record (blank_region c.args.head) { bytes = bs } ∷ [])) (put-whole (blank_region c.args.head).bytes c.args.bytes.now (zeros ∙ sym c.requires.length)) c.add.ensures.regions
