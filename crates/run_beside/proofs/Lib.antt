mod PairRuns
