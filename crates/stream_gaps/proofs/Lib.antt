mod UntakenLemmas
