use Rattle.std.proofs.lemmas.Result.{IfOk-weaker}
use Rattle.query_parse.proofs.RoundTrip.{round_trip}
use Rattle.query_parse.proofs.writing.text.Goals as goal

pub returns-clause-reads_back : goal.returns-clause-reads_back
returns-clause-reads_back c = IfOk-weaker c.write_select.result _ _ (λ v is. rw is (λ bytes h short. round_trip bytes c.args.select.now h short)) c.write_select.ensures
