use Rattle.std.proofs.Common.{◌≡◌, ℕ, List, Option, ◌++◌, ◌∷◌, [], IfSome, string_bytes, ◌∙◌, ap, subst}
use Rattle.stripboard_cases.specs.Judged.{IsReadFrom}
use Rattle.stripboard_cases.proofs.Counts.{read_more, took_more}
use Rattle.stripboard_cases.proofs.judging.judge.Goals as goal

pub loop-name-preserved : goal.loop-name-preserved
loop-name-preserved g c =
    let so_far = c.loop-name.invariant.files in
    let one = c.in_ok-rows.ensures.counted in
    let told = c.loop-name.invariant.told in
    let at : (g.F.Files.state c.loop-name.files).bytes c.as_str.result.now ≡ (g.F.Files.state c.args.files.now).bytes (string_bytes c.name-item.result) =
    ap (λ (bytes : List ℕ → Option (List ℕ)). bytes c.as_str.result.now) told ∙ ap (g.F.Files.state c.args.files.now).bytes c.as_str.ensures.value in
    record {
      files = (
        so_far.0 ++ one.0 ∷ [],
        read_more (g.F.Files.state c.args.files.now).bytes c.args.names.now c.loop-name.name-index c.name-item.result so_far.0 one.0 c.loop-name-test.true c.name-item.is so_far.1
            (subst (λ (bytes : Option (List ℕ)). IfSome one.0 (IsReadFrom bytes)) at one.1),
        one.2 so_far.0 so_far.2,
      );
      told = c.judge_file.ensures.told ∙ told;
      took = (c.loop-name.invariant.took.0 ++ c.as_bytes.result.now, took_more _ _ _ _ _ c.loop-name.invariant.took.1 c.in-Ok.ensures.ok);
      unfailed = c.in-Ok.ensures.unfailed ∙ c.loop-name.invariant.unfailed;
    }
